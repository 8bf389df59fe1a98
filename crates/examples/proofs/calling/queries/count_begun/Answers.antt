use Rattle.std.proofs.Common.{◌∙◌, ap, arith, count_by, nat_le}
use Rattle.std.specs.Map.Iter.{deref}
use Rattle.std.specs.Ordering.{nat_cmp}
use Rattle.rangemap.specs.Ranges.{half_open}
use Rattle.rangemap.specs.Sets.{met}
use Rattle.rangemap.proofs.CountLemmas.{fewer_counted, items_counted, met_shorter}
use Rattle.rangemap.proofs.Loops.{LendsRanges, lends_again}
use Rattle.rangemap.proofs.OverlapLemmas.{met_half_open}
use Rattle.examples.proofs.calling.queries.count_begun.Goals as goal

pub overflow_add-count : goal.overflow_add-count
overflow_add-count c =
    let lends : LendsRanges (met (half_open nat_cmp) c.args.shifts.now c.args.hours.now) c.loop-range.yielded c.next.result = search lends_again in
    omega (arith, fewer_counted lends (λ item. nat_le c.args.hours.now.start (deref item).start) c.in-Some.is, met_shorter (half_open nat_cmp) c.args.shifts.now c.args.hours.now, c.loop-range.invariant, c.len-stored.ensures)

pub returns : goal.returns
returns c =
    let lends : LendsRanges (met (half_open nat_cmp) c.args.shifts.now c.args.hours.now) c.loop-range.yielded c.next.result = search lends_again in
    c.loop-range.invariant ∙ items_counted lends (λ shift. nat_le c.args.hours.now.start shift.start) c.in-None.is ∙ ap (λ list. count_by (λ shift. nat_le c.args.hours.now.start shift.start) list) (met_half_open c.args.shifts.now c.args.hours.now)
