use Rattle.std.proofs.Common.{sym, subst, true≢false}
use Rattle.std.specs.Prelude.{nat_eq}
use Rattle.rangemap.proofs.NumberLemmas.{held_where_one_meets}
use Rattle.calendar.specs.Bookings.{IsHeld, holder_of}
use Rattle.calendar.proofs.BookingLemmas.{asked_days, cancel_refused, day_kind, held_days}
use Rattle.calendar.proofs.Calendar.cancel.Goals as goal

pub returns-in_err-remove-clause-answer : goal.returns-in_err-remove-clause-answer
returns-in_err-remove-clause-answer g c =
    let asked = asked_days c.self.inside.days c.new.result c.args.first c.args.last c.new.ensures.start c.new.ensures.end c.ranges.last.fits c.if-first-last.false c.new.ensures.exhausted in
    let held = held_where_one_meets day_kind nat_eq c.self.inside.days c.known.ensures c.new.result asked (λ none. true≢false (sym (c.in_err-remove.ensures.meets_nothing none).0)) in
    cancel_refused (holder_of c.args.self.now) c.args.first c.args.last c.if-first-last.false c.from_residual.result
    (subst (λ list. IsHeld (holder_of list) c.args.first c.args.last) c.self.view_is (held_days c.self.inside.days c.new.result c.args.first c.args.last c.new.ensures.start c.new.ensures.end c.ranges.last.fits held)) c.from_residual.ensures
