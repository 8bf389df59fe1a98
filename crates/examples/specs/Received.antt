-- Which numbers were received.
use Rattle.std.specs.Prelude.{◌≡◌, ℕ, ◌<◌, ◌≤◌, ◌^◌, Bool, true, false, List}
use Rattle.std.specs.Ordering.{nat_cmp}
use Rattle.std.specs.declared.ops.RangeInclusive.{RangeInclusive}
use Rattle.rangemap.specs.Ranges.{closed, covers}

-- the number is one of the stored ranges
abbrev pub is_in : List (RangeInclusive ℕ) → ℕ → Bool
is_in numbers = covers (closed (λ x. x < 2 ^ 64) nat_cmp) numbers

-- the number is the lowest from the start on that was not received
pub record IsLowestMissing (numbers : List (RangeInclusive ℕ)) (start number : ℕ) : Type 0 where
  pub missing : is_in numbers number ≡ false
  pub from : start ≤ number
  pub lowest : (other : ℕ) → start ≤ other → other < number → is_in numbers other ≡ true
