-- Who is on duty, and what a swap of two shifts leaves.
use Rattle.std.specs.Prelude.{◌≡◌, ℕ, ◌<◌, ◌≤◌, List, Option, Some, None, IsTrue, if◌then◌else◌}
use Rattle.std.specs.Ordering.{nat_cmp}
use Rattle.std.specs.declared.ops.Range.{Range}
use Rattle.rangemap.specs.Ranges.{RangeKind, covering, covers, half_open, value_at}

-- hours, and stretches of them
abbrev pub hours : RangeKind ℕ (Range ℕ)
hours = half_open nat_cmp

-- who is on at an hour, by the stored shifts
abbrev pub on_duty : List (Range ℕ × ℕ) → ℕ → Option ℕ
on_duty shifts = value_at hours shifts

-- Two shifts were swapped: the one that has the hour `first` and the one that has `second`. Each
-- has the other's person then, and every other hour whom it had.
pub record IsSwapped (old : List (Range ℕ × ℕ)) (first second : ℕ) (new : List (Range ℕ × ℕ)) : Type 0 where
  pub one : Range ℕ × ℕ
  pub other : Range ℕ × ℕ
  pub has_first : covering hours old first ≡ Some one
  pub has_second : covering hours old second ≡ Some other
  pub after : (hour : ℕ) → on_duty new hour ≡ (if hours.holds other.0 hour then Some one.1 else if hours.holds one.0 hour then Some other.1 else on_duty old hour)

-- the stretches are those of the hours from `start` to, and without, `end` at which nobody is on
pub record AreUncovered (shifts : List (Range ℕ × ℕ)) (start end : ℕ) (stretches : List (Range ℕ)) : Type 0 where
  pub from : (hour : ℕ) → IsTrue (covers hours stretches hour) → start ≤ hour
  pub to : (hour : ℕ) → IsTrue (covers hours stretches hour) → hour < end
  pub nobody : (hour : ℕ) → IsTrue (covers hours stretches hour) → on_duty shifts hour ≡ None
  pub all : (hour : ℕ) → start ≤ hour → hour < end → on_duty shifts hour ≡ None → IsTrue (covers hours stretches hour)
