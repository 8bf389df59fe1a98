-- Which days nobody has the desk, and how a number stands in JSON.
use Rattle.std.specs.Prelude.{◌<◌, ◌^◌, ◌≡◌, ◌≢◌, ℕ, Bool, List, MatchResult, Result, Some, option_and_then}
use Rattle.std.specs.Ordering.{nat_cmp}
use Rattle.std.specs.declared.ops.RangeInclusive.{RangeInclusive}
use Rattle.serde_json.specs.declared.value.Value.{Value}
use Rattle.serde_json.specs.Data.{number, unsigned}
use Rattle.serde_json.specs.Find.{as_number, as_u64}
use Rattle.serde_json.specs.View.{view}
use Rattle.rangemap.specs.Ranges.{RangeKind, closed, covers}
use Rattle.examples.specs.declared.desk.NotANumber.{NotANumber}

-- the kind of days
abbrev pub days : RangeKind ℕ (RangeInclusive ℕ)
days = closed (λ x. x < 2 ^ 32) nat_cmp

-- the house is closed on a day
abbrev pub is_closed : List (RangeInclusive ℕ) → ℕ → Bool
is_closed list day = covers days list day

-- a number of 32 bits is written as itself, and never refused
abbrev pub writes_number : ℕ → Result Value NotANumber → Type 0
writes_number n result = (n < 2 ^ 32) × MatchResult result (λ value. view value ≡ number (unsigned n)) (λ _. ⊥)

-- a number of 32 bits is read as itself, and nothing else is read
abbrev pub reads_number : Value → Result ℕ NotANumber → Type 0
reads_number value result = MatchResult result (λ n. (n < 2 ^ 32) × (option_and_then as_u64 (as_number (view value)) ≡ Some n)) (λ _. (n : ℕ) → n < 2 ^ 32 → option_and_then as_u64 (as_number (view value)) ≢ Some n)
