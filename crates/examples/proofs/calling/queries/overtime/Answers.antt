use Rattle.std.proofs.Common.{arith, ◌-◌, ◌≤◌}
use Rattle.std.specs.Ordering.{nat_cmp}
use Rattle.rangemap.specs.Ranges.{half_open}
use Rattle.rangemap.specs.Sets.{met}
use Rattle.rangemap.proofs.Loops.{LendsRanges, lends_again}
use Rattle.rangemap.proofs.NumberKinds.{half_open_storable, half_open_unsigned, placed_half_open, unsigned}
use Rattle.rangemap.proofs.NumberLemmas.{forward}
use Rattle.rangemap.proofs.SetMetLemmas.{IsSetAsked, covered_by_met_items, met_range_is_stored}
use Rattle.examples.proofs.calling.queries.overtime.Goals as goal

pub returns-then-range-limit-clause-found : goal.returns-then-range-limit-clause-found
returns-then-range-limit-clause-found c =
    let asked : IsSetAsked (half_open nat_cmp) c.args.shifts.now c.args.hours.now = record { canonical = c.known.ensures; storable = half_open_storable unsigned c.args.hours.now c.requires } in
    let lends : LendsRanges (met (half_open nat_cmp) c.args.shifts.now c.args.hours.now) c.loop-range.yielded c.next.result = search lends_again in
    let range = c.in-Some.range.now in
    let is = met_range_is_stored placed_half_open asked lends c.in-Some.is in
    let full = forward half_open_unsigned range is.stored in
    (omega arith, is.covered (range.end - 1) (half_open_unsigned.holds range (range.end - 1) (omega (arith, full)) (omega (arith, full))))

pub returns-clause-none : goal.returns-clause-none
returns-clause-none c = λ x from to there.
    let asked : IsSetAsked (half_open nat_cmp) c.args.shifts.now c.args.hours.now = record { canonical = c.known.ensures; storable = half_open_storable unsigned c.args.hours.now c.requires } in
    let one = covered_by_met_items placed_half_open asked (search lends_again) (λ range. range.end ≤ c.args.limit) c.loop-range.invariant c.in-None.is x tt (half_open_unsigned.holds c.args.hours.now x from to) there in
    omega (arith, one.kept, half_open_unsigned.to one.range x one.holds)
