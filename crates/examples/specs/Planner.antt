-- Who holds an address.
use Rattle.std.specs.Prelude.{◌≡◌, ℕ, ◌+◌, ◌<◌, ◌≤◌, ◌^◌, List, Option, None}
use Rattle.std.specs.Ordering.{nat_cmp}
use Rattle.std.specs.declared.ops.RangeInclusive.{RangeInclusive}
use Rattle.rangemap.specs.Ranges.{closed, value_at}

-- who holds an address, by the stored ranges
abbrev pub owner_of : List (RangeInclusive ℕ × ℕ) → ℕ → Option ℕ
owner_of list = value_at (closed (λ x. x < 2 ^ 32) nat_cmp) list

-- nobody holds one of the addresses from the first up to, and without, the second
abbrev pub IsFree : List (RangeInclusive ℕ × ℕ) → ℕ → ℕ → Type 0
IsFree list first past = (at : ℕ) → first ≤ at → at < past → owner_of list at ≡ None

-- so many addresses from the first on are free, and from no lower one on are as many
pub record IsLowestFree (list : List (RangeInclusive ℕ × ℕ)) (size first : ℕ) : Type 0 where
  pub fits : first + size ≤ 2 ^ 32
  pub free : IsFree list first (first + size)
  pub lowest : (lower : ℕ) → lower < first → ¬ (IsFree list lower (lower + size))
