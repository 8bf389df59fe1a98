-- Days in a calendar: what the lemmas of numbers say of them, and what a history makes of them.
use Rattle.std.proofs.Common.{arith, ◌+◌, ◌<◌, ◌≡◌, ℕ, false, ◌≤◌, List, [], ◌∷◌, ◌++◌, cond, Option, Some, None, refl, sym, ap, subst, ◌∙◌, true≢false}
use Rattle.std.specs.Prelude.{◌^◌, Ok, Err, IsErr, IsErrAnd}
use Rattle.std.specs.declared.ops.RangeInclusive.{RangeInclusive}
use Rattle.calendar.specs.declared.BookError.TheVariants.{Empty, Taken, OutOfMemory}
use Rattle.calendar.specs.declared.history.Call.{Call}
use Rattle.calendar.specs.declared.history.Call.TheVariants.{Book, Cancel}
use Rattle.calendar.specs.Bookings.{Answer, AreAnswers, AreFree, IsCancelAnswer, IsDay, IsHeld, IsMadeAnswer, holder_of, holders, is_within, made}
use Rattle.std.specs.Range.{range_inclusive_end, range_inclusive_exhausted, range_inclusive_start}
use Rattle.rangemap.specs.Ranges.{IsStorable}
use Rattle.rangemap.proofs.NumberKinds.{NumberKind, closed_storable, closed_unsigned, unsigned}
use Rattle.rangemap.proofs.NumberLemmas.{IsFreeBetween, IsHeldBetween}

-- ---- days between two others

abbrev pub day_kind : NumberKind ℕ (RangeInclusive ℕ)
day_kind = closed_unsigned (2 ^ 32)

module _ (list : List (RangeInclusive ℕ × ℕ)) (days : RangeInclusive ℕ) (first last : ℕ) (starts : range_inclusive_start days ≡ first) (ends : range_inclusive_end days ≡ last) (below : last < 2 ^ 32) where
  pub asked_days : first ≤ last → range_inclusive_exhausted days ≡ false → IsStorable day_kind.kind days
  asked_days forward fresh = closed_storable unsigned IsDay days (omega (arith, starts)) (omega (arith, ends)) (omega (arith, starts, ends)) fresh

  pub free_days : IsFreeBetween day_kind list (range_inclusive_start days) (range_inclusive_end days + 1) → AreFree (holder_of list) first last
  free_days free day key from to = free day (omega (arith, starts)) (omega (arith, ends))

  pub held_days : IsHeldBetween day_kind list (range_inclusive_start days) (range_inclusive_end days + 1) → IsHeld (holder_of list) first last
  held_days held = record {
    day = held.at;
    is_day = omega (arith, held.to, ends);
    from = omega (arith, held.from, starts);
    to = omega (arith, held.to, ends);
    held = λ none. not_both held.is none;
  }
    where
      not_both : {o : Option ℕ} {guest : ℕ} → o ≡ Some guest → o ≡ None → ⊥
      not_both a b = cc

-- ---- histories

module _ (f g : ℕ → Option ℕ) (same : (day : ℕ) → IsDay day → f day ≡ g day) where
  free_alike : (first last : ℕ) → AreFree f first last → AreFree g first last
  free_alike first last free day key from to = sym (same day key) ∙ free day key from to

  held_alike : (first last : ℕ) → IsHeld f first last → IsHeld g first last
  held_alike first last h = record { day = h.day; is_day = h.is_day; from = h.from; to = h.to; held = λ none. h.held (same h.day h.is_day ∙ none) }

  -- an answer is one by any function that says the same of days
  pub answer_alike : (call : Call) (answer : Answer) → IsMadeAnswer f call answer → IsMadeAnswer g call answer
  answer_alike (Book first last guest) (Ok u) h = (h.0, free_alike first last h.1)
  answer_alike (Book first last guest) (Err Empty) h = h
  answer_alike (Book first last guest) (Err Taken) h = (h.0, held_alike first last h.1)
  answer_alike (Book first last guest) (Err OutOfMemory) h = (h.0, free_alike first last h.1)
  answer_alike (Cancel first last) (Ok u) h = h
  answer_alike (Cancel first last) (Err Empty) h = h
  answer_alike (Cancel first last) (Err Taken) h = h
  answer_alike (Cancel first last) (Err OutOfMemory) h = (h.0, held_alike first last h.1)

  pub made_alike : (call : Call) (answer : Answer) (day : ℕ) → IsDay day → made f call answer day ≡ made g call answer day
  made_alike (Book first last guest) (Ok u) day key = ap (cond (is_within first last day) (Some guest)) (same day key)
  made_alike (Cancel first last) (Ok u) day key = ap (cond (is_within first last day) None) (same day key)
  made_alike (Book first last guest) (Err e) day key = same day key
  made_alike (Cancel first last) (Err e) day key = same day key

-- one call more
pub holders_last : (f : ℕ → Option ℕ) (calls : List Call) (answers : List Answer) (call : Call) (answer : Answer) → AreAnswers f calls answers → holders f (calls ++ call ∷ []) (answers ++ answer ∷ []) ≡ made (holders f calls answers) call answer
holders_last f [] [] call answer h = refl
holders_last f [] (a ∷ answers) call answer h = absurd h
holders_last f (c ∷ calls) [] call answer h = absurd h
holders_last f (c ∷ calls) (a ∷ answers) call answer h = holders_last (made f c a) calls answers call answer h.1

pub answers_last : (f : ℕ → Option ℕ) (calls : List Call) (answers : List Answer) (call : Call) (answer : Answer) → AreAnswers f calls answers → IsMadeAnswer (holders f calls answers) call answer → AreAnswers f (calls ++ call ∷ []) (answers ++ answer ∷ [])
answers_last f [] [] call answer h last = (last, tt)
answers_last f [] (a ∷ answers) call answer h last = absurd h
answers_last f (c ∷ calls) [] call answer h last = absurd h
answers_last f (c ∷ calls) (a ∷ answers) call answer h last = (h.0, answers_last (made f c a) calls answers call answer h.1 last)

-- ---- a cancellation that is refused for want of memory

module _ (f : ℕ → Option ℕ) (first last : ℕ) (forward : first ≤ last) where
  pub cancel_refused : (answer : Answer) → IsHeld f first last → IsErr answer × IsErrAnd answer (λ e. e ≡ OutOfMemory) → IsCancelAnswer f first last answer
  cancel_refused (Ok u) held h = absurd (true≢false (sym h.0))
  cancel_refused (Err e) held h = subst (λ x. IsCancelAnswer f first last (Err x)) (sym h.1) (forward, held)
