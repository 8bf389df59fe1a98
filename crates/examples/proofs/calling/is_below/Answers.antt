use Rattle.std.proofs.Common.{arith, ◌≤◌, nat_cmp}
use Rattle.rangemap.proofs.LoopLemmas.{covered_by_items}
use Rattle.rangemap.proofs.Loops.{lends_again}
use Rattle.rangemap.proofs.NumberKinds.{half_open_unsigned}
use Rattle.rangemap.specs.Ranges.{half_open}
use Rattle.examples.proofs.calling.is_below.Goals as goal

pub returns : goal.returns
returns c = λ yes key there.
    let one = covered_by_items (half_open nat_cmp) c.args.set.now (λ range. range.end ≤ c.args.limit) (search lends_again) c.loop-range.invariant c.in-None.is key there in
    omega (arith, one.kept, half_open_unsigned.to one.range key one.holds)
