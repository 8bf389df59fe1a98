-- What a calendar of reservations holds, and what its calls answer.
use Rattle.std.specs.Prelude.{◌≡◌, ◌≢◌, ℕ, ◌<◌, ◌≤◌, ◌^◌, ◌&&◌, nat_le, if◌then◌else◌, Bool, false, List, [], ◌∷◌, ⊤, Option, Some, None, Result, Ok, Err}
use Rattle.std.specs.Ordering.{nat_cmp}
use Rattle.std.specs.declared.ops.RangeInclusive.{RangeInclusive}
use Rattle.std.specs.Range.{range_inclusive_end, range_inclusive_exhausted, range_inclusive_start}
use Rattle.rangemap.specs.Ranges.{RangeKind, closed, value_at}
use Rattle.calendar.specs.declared.BookError.{BookError}
use Rattle.calendar.specs.declared.BookError.TheVariants.{Empty, Taken, OutOfMemory}
use Rattle.calendar.specs.declared.history.Call.{Call}
use Rattle.calendar.specs.declared.history.Call.TheVariants.{Book, Cancel}

-- a day number
abbrev pub IsDay : ℕ → Type 0
IsDay x = x < 2 ^ 32

-- ranges of day numbers
abbrev pub days : RangeKind ℕ (RangeInclusive ℕ)
days = closed IsDay nat_cmp

-- what a call answers
abbrev pub Answer : Type 0
Answer = Result (Unit {0}) BookError

-- the day lies from the first to the last
abbrev pub is_within : ℕ → ℕ → ℕ → Bool
is_within first last day = nat_le first day && nat_le day last

-- the range has a day: its first does not come after its last, and it was not iterated to its end
abbrev pub HasDay : RangeInclusive ℕ → Type 0
HasDay range = (range_inclusive_start range ≤ range_inclusive_end range) × (range_inclusive_exhausted range ≡ false)

-- who holds a day, by the stored ranges
abbrev pub holder_of : List (RangeInclusive ℕ × ℕ) → ℕ → Option ℕ
holder_of list = value_at days list

-- the days are the guest's, and the others are held as before
abbrev pub booked : ℕ → ℕ → ℕ → (ℕ → Option ℕ) → ℕ → Option ℕ
booked first last guest f day = if is_within first last day then Some guest else f day

-- nobody holds any of the days, and the others are held as before
abbrev pub cancelled : ℕ → ℕ → (ℕ → Option ℕ) → ℕ → Option ℕ
cancelled first last f day = if is_within first last day then None else f day

-- nobody holds any of the days
abbrev pub AreFree : (ℕ → Option ℕ) → ℕ → ℕ → Type 0
AreFree f first last = (day : ℕ) → IsDay day → first ≤ day → day ≤ last → f day ≡ None

-- someone holds one of the days
pub record IsHeld (f : ℕ → Option ℕ) (first last : ℕ) : Type 0 where
  pub day : ℕ
  pub is_day : IsDay day
  pub from : first ≤ day
  pub to : day ≤ last
  pub held : f day ≢ None

-- The answer to a booking. Of the first three cases no two can be at once, so `Empty` is answered
-- exactly where the first day comes after the last, and `Taken` exactly where else a day is held. A
-- refusal for memory says what an accepted booking does, since no contract says that there is memory.
abbrev pub IsBookAnswer : (ℕ → Option ℕ) → ℕ → ℕ → Answer → Type 0
IsBookAnswer f first last (Ok _) = (first ≤ last) × AreFree f first last
IsBookAnswer f first last (Err Empty) = last < first
IsBookAnswer f first last (Err Taken) = (first ≤ last) × IsHeld f first last
IsBookAnswer f first last (Err OutOfMemory) = (first ≤ last) × AreFree f first last

-- the same of a booking whose days come as a range
abbrev pub IsDaysAnswer : (ℕ → Option ℕ) → RangeInclusive ℕ → Answer → Type 0
IsDaysAnswer f range (Ok _) = HasDay range × AreFree f (range_inclusive_start range) (range_inclusive_end range)
IsDaysAnswer f range (Err Empty) = ¬ HasDay range
IsDaysAnswer f range (Err Taken) = HasDay range × IsHeld f (range_inclusive_start range) (range_inclusive_end range)
IsDaysAnswer f range (Err OutOfMemory) = HasDay range × AreFree f (range_inclusive_start range) (range_inclusive_end range)

-- the answer to a cancellation, which is refused for want of memory only where a day is held
abbrev pub IsCancelAnswer : (ℕ → Option ℕ) → ℕ → ℕ → Answer → Type 0
IsCancelAnswer f first last (Ok _) = first ≤ last
IsCancelAnswer f first last (Err Empty) = last < first
IsCancelAnswer f first last (Err Taken) = ⊥
IsCancelAnswer f first last (Err OutOfMemory) = (first ≤ last) × IsHeld f first last

-- the answer to a call of either sort
abbrev pub IsMadeAnswer : (ℕ → Option ℕ) → Call → Answer → Type 0
IsMadeAnswer f (Book first last guest) answer = IsBookAnswer f first last answer
IsMadeAnswer f (Cancel first last) answer = IsCancelAnswer f first last answer

-- who holds the days after a call: an accepted booking overrides, an accepted cancellation erases,
-- a refused call changes nothing
abbrev pub made : (ℕ → Option ℕ) → Call → Answer → ℕ → Option ℕ
made f (Book first last guest) (Ok _) = booked first last guest f
made f (Cancel first last) (Ok _) = cancelled first last f
made f call (Err _) = f

-- the holders of a history
abbrev pub holders : (ℕ → Option ℕ) → List Call → List Answer → ℕ → Option ℕ
holders f (call ∷ calls) (answer ∷ answers) = holders (made f call answer) calls answers
holders f [] [] = f
holders f [] (answer ∷ answers) = f
holders f (call ∷ calls) [] = f

-- each call's answer, by who held the days when it was made
abbrev pub AreAnswers : (ℕ → Option ℕ) → List Call → List Answer → Type 0
AreAnswers f [] [] = ⊤
AreAnswers f (call ∷ calls) (answer ∷ answers) = IsMadeAnswer f call answer × AreAnswers (made f call answer) calls answers
AreAnswers f [] (answer ∷ answers) = ⊥
AreAnswers f (call ∷ calls) [] = ⊥
