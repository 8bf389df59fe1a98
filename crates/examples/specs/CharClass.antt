-- Which characters a class has.
use Rattle.std.specs.Prelude.{ℕ, Bool, ◌&&◌, ◌||◌, nat_eq, nat_le, List}
use Rattle.std.specs.Ordering.{nat_cmp}
use Rattle.std.specs.declared.ops.RangeInclusive.{RangeInclusive}
use Rattle.rangemap.specs.CharLaws.{IsChar}
use Rattle.rangemap.specs.Ranges.{RangeKind, closed, covers}

-- ranges of characters
abbrev pub characters : RangeKind ℕ (RangeInclusive ℕ)
characters = closed IsChar nat_cmp

-- the class has the character
abbrev pub has : List (RangeInclusive ℕ) → ℕ → Bool
has members = covers characters members

-- the character is one from the first up to the last
abbrev is_from_to : ℕ → ℕ → ℕ → Bool
is_from_to first last c = nat_le first c && nat_le c last

-- a letter from `a` to `z` or from `A` to `Z`, a digit, or `_`
abbrev pub is_word : ℕ → Bool
is_word c = ((is_from_to 97 122 c || is_from_to 65 90 c) || is_from_to 48 57 c) || nat_eq c 95
