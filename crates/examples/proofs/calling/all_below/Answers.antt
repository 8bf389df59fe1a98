use Rattle.std.proofs.Common.{arith, ◌<◌, nat_cmp}
use Rattle.rangemap.specs.Ranges.{half_open}
use Rattle.rangemap.proofs.Loops.{lends_again}
use Rattle.rangemap.proofs.PairLoopLemmas.{value_from_items}
use Rattle.examples.proofs.calling.all_below.Goals as goal

pub returns : goal.returns
returns c = λ yes hour person there.
    let one = value_from_items (half_open nat_cmp) c.args.shifts.now (λ pair. pair.1 < c.args.limit) (search lends_again) c.loop-person.invariant c.in-None.is hour person there in
    omega (arith, one.kept, one.is)
