-- On which physical blocks the logical blocks of a file lie.
use Rattle.std.specs.Prelude.{◌≡◌, ℕ, ◌+◌, ◌%◌, ◌<◌, ◌≤◌, ◌^◌, List, Option, Some, option_map}
use Rattle.std.specs.Ordering.{nat_cmp}
use Rattle.std.specs.declared.ops.RangeInclusive.{RangeInclusive}
use Rattle.rangemap.specs.Ranges.{RangeKind, closed, value_at}

-- ranges of block numbers
abbrev pub blocks : RangeKind ℕ (RangeInclusive ℕ)
blocks = closed (λ x. x < 2 ^ 32) nat_cmp

-- where a logical block lies, by the stored shifts
abbrev pub place_of : List (RangeInclusive ℕ × ℕ) → ℕ → Option ℕ
place_of shifts block = option_map (λ shift. (block + shift) % 2 ^ 32) (value_at blocks shifts block)

-- no two logical blocks lie on the same physical block
abbrev pub IsOneToOne : List (RangeInclusive ℕ × ℕ) → Type 0
IsOneToOne shifts = (one other place : ℕ) → one < 2 ^ 32 → other < 2 ^ 32 → place_of shifts one ≡ Some place → place_of shifts other ≡ Some place → one ≡ other

-- some logical block lies on one of the physical blocks from the first to the last
pub record IsUsed (shifts : List (RangeInclusive ℕ × ℕ)) (first last : ℕ) : Type 0 where
  pub block : ℕ
  pub is_block : block < 2 ^ 32
  pub place : ℕ
  pub is : place_of shifts block ≡ Some place
  pub from : first ≤ place
  pub to : place ≤ last

-- one of the blocks from the start to the end, shifted, is one of those from the first to the last
pub record LiesOn (start end shift first last : ℕ) : Type 0 where
  pub block : ℕ
  pub behind : start ≤ block
  pub ahead : block ≤ end
  pub from : first ≤ (block + shift) % 2 ^ 32
  pub to : (block + shift) % 2 ^ 32 ≤ last

-- none of them is
abbrev pub IsOutside : ℕ → ℕ → ℕ → ℕ → ℕ → Type 0
IsOutside start end shift first last = (block : ℕ) → start ≤ block → block ≤ end → first ≤ (block + shift) % 2 ^ 32 → (block + shift) % 2 ^ 32 ≤ last → ⊥
