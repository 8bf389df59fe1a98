use Rattle.std.proofs.Common.{arith, ◌<◌, ℕ}
use Rattle.std.specs.Prelude.{nat_eq}
use Rattle.std.specs.Ordering.{nat_cmp}
use Rattle.std.specs.declared.ops.Range.{Range}
use Rattle.rangemap.specs.Ranges.{half_open}
use Rattle.rangemap.proofs.LoopLemmas.{value_from_met_items}
use Rattle.rangemap.proofs.Loops.{lends_again}
use Rattle.rangemap.proofs.NumberKinds.{half_open_storable, half_open_unsigned, placed_half_open, unsigned}
use Rattle.rangemap.proofs.PairLoopLemmas.{IsAsked}
use Rattle.examples.proofs.calling.are_below.Goals as goal

pub returns : goal.returns
returns c = λ yes x v from to there.
    let query : Range ℕ = record { start = c.args.from; end = c.args.to } in
    let asked : IsAsked (half_open nat_cmp) nat_eq c.args.stock.now query = record { canonical = c.known.ensures; storable = half_open_storable unsigned query c.requires } in
    let each = value_from_met_items placed_half_open asked (λ pair. pair.1 < c.args.limit) (search lends_again) c.loop-value.invariant c.in-None.is in
    let one = each x tt (half_open_unsigned.holds query x from to) v there in
    omega (arith, one.kept, one.is)
