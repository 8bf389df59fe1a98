use Rattle.std.proofs.Common.{◌∙◌, arith, nat_eq}
use Rattle.std.specs.Map.Iter.{deref_pair}
use Rattle.std.specs.Ordering.{nat_cmp}
use Rattle.rangemap.specs.Ranges.{half_open, overlapped}
use Rattle.rangemap.proofs.Loops.{LendsPairs, lends_again}
use Rattle.rangemap.proofs.CountLemmas.{fewer_counted, items_counted, overlapped_shorter}
use Rattle.examples.proofs.desk.bookings_of.Goals as goal

pub overflow_add-count : goal.overflow_add-count
overflow_add-count c =
    let lends : LendsPairs (overlapped (half_open nat_cmp) c.args.sheet.now c.args.hours.now) c.loop-who.yielded c.next.result = search lends_again in
    omega (arith, fewer_counted lends (λ item. nat_eq (deref_pair item).1 c.args.guest) c.in-Some.is, overlapped_shorter (half_open nat_cmp) c.args.sheet.now c.args.hours.now, c.loop-who.invariant, c.len-stored.ensures)

pub returns : goal.returns
returns c =
    let lends : LendsPairs (overlapped (half_open nat_cmp) c.args.sheet.now c.args.hours.now) c.loop-who.yielded c.next.result = search lends_again in
    c.loop-who.invariant ∙ items_counted lends (λ booking. nat_eq booking.1 c.args.guest) c.in-None.is
