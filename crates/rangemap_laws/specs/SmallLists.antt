-- Small lists of ranges of numbers, which show what the definitions say.
use Rattle.std.specs.Prelude.{◌≡◌, ℕ, ◌+◌, ◌<◌, List, [], ◌∷◌, Result, Ok, true, false}
use Rattle.std.specs.Ordering.{nat_cmp}
use Rattle.std.specs.declared.ops.Range.{Range}
use Rattle.std.specs.declared.ops.RangeInclusive.{RangeInclusive}
use Rattle.rangemap_core.specs.Ranges.{RangeKind, closed}
use Rattle.serde_json.specs.declared.value.Value.{Value}

-- `a..b`
abbrev pub range : ℕ → ℕ → Range ℕ
range a b = record { start = a; end = b }

-- `0..10` with the value 1
abbrev pub one_pair : List (Range ℕ × ℕ)
one_pair = (range 0 10, 1) ∷ []

-- neighbours with other values
abbrev pub three_pairs : List (Range ℕ × ℕ)
three_pairs = (range 0 3, 1) ∷ (range 3 6, 2) ∷ (range 6 10, 1) ∷ []

-- closed ranges whose keys are the bytes
abbrev pub bytes : RangeKind ℕ (RangeInclusive ℕ)
bytes = closed (λ x. x < 256) nat_cmp

-- `a..=b`
abbrev pub inclusive : ℕ → ℕ → RangeInclusive ℕ
inclusive a b = record { start = a; end = b; exhausted = false }

-- `a..=b`, iterated to its end
abbrev pub iterated : ℕ → ℕ → RangeInclusive ℕ
iterated a b = record { start = a; end = b; exhausted = true }

-- the text of a number below ten
abbrev pub digit : ℕ → List ℕ
digit n = (48 + n) ∷ []

-- a number is written as the part that stands for it
abbrev pub writes : (ℕ → Value) → ℕ → Result Value ℕ → Type 0
writes of n answer = answer ≡ Ok (of n)

-- and a part is read as the number that it stands for
abbrev pub reads : (ℕ → Value) → Value → Result ℕ ℕ → Type 0
reads of part answer = (n : ℕ) × (part ≡ of n) × (answer ≡ Ok n)
