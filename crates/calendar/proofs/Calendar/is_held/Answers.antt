use Rattle.std.proofs.Common.{arith, length, nat_lt, true, false, refl, sym, subst, ◌∙◌, ◌≡◌}
use Rattle.std.proofs.lemmas.Bool.{OnFalse_from, OnTrue_from}
use Rattle.std.specs.Prelude.{nat_eq}
use Rattle.std.specs.Range.{range_inclusive_end, range_inclusive_start}
use Rattle.rangemap.specs.Ranges.{IsCanonical, overlapped}
use Rattle.rangemap.proofs.NumberLemmas.{free_by_overlaps, held_by_overlaps}
use Rattle.calendar.specs.Bookings.{AreFree, IsHeld, days, holder_of}
use Rattle.calendar.proofs.BookingLemmas.{asked_days, day_kind, free_days, held_days}
use Rattle.calendar.proofs.Calendar.is_held.Goals as goal

pub returns-clause-held : goal.returns-clause-held
returns-clause-held g c = OnTrue_from c.overlaps.result (IsHeld (holder_of c.args.self.now) (range_inclusive_start c.args.days.now) (range_inclusive_end c.args.days.now)) (λ is_true.
    let test = subst (λ list. nat_lt 0 (length (overlapped days list c.args.days.now)) ≡ true) c.self.view_is (sym c.overlaps.ensures.any ∙ is_true) in
    let canonical = subst (IsCanonical days nat_eq) c.self.view_is c.known.ensures in
    let asked = asked_days c.args.self.now c.args.days.now _ _ refl refl (omega (arith, c.end.ensures, c.known-2.ensures)) c.requires.0 c.requires.1 in
    held_days c.args.self.now c.args.days.now _ _ refl refl (omega (arith, c.end.ensures, c.known-2.ensures)) (held_by_overlaps day_kind nat_eq c.args.self.now canonical c.args.days.now asked test))

pub returns-clause-free : goal.returns-clause-free
returns-clause-free g c = OnFalse_from c.overlaps.result (AreFree (holder_of c.args.self.now) (range_inclusive_start c.args.days.now) (range_inclusive_end c.args.days.now)) (λ is_false.
    let test = subst (λ list. nat_lt 0 (length (overlapped days list c.args.days.now)) ≡ false) c.self.view_is (sym c.overlaps.ensures.any ∙ is_false) in
    let canonical = subst (IsCanonical days nat_eq) c.self.view_is c.known.ensures in
    let asked = asked_days c.args.self.now c.args.days.now _ _ refl refl (omega (arith, c.end.ensures, c.known-2.ensures)) c.requires.0 c.requires.1 in
    free_days c.args.self.now c.args.days.now _ _ refl refl (omega (arith, c.end.ensures, c.known-2.ensures)) (free_by_overlaps day_kind nat_eq c.args.self.now canonical c.args.days.now asked test))
