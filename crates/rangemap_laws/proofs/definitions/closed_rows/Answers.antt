use Rattle.std.proofs.Common.{arith, refl}
use Rattle.rangemap_core.specs.Ranges.{IsStorable}
use Rattle.rangemap_laws.specs.SmallLists.{bytes, inclusive}
use Rattle.rangemap_laws.proofs.definitions.closed_rows.Goals as goal

-- 5 lies between
not_touching : bytes.Touches (inclusive 0 4) (inclusive 6 9) → ⊥
not_touching t = t.1 5 (omega arith) refl refl

first : IsStorable bytes (inclusive 0 4)
first = record { start_is_key = omega arith; end_is_key = omega arith; non_empty = (refl, refl) }

second : IsStorable bytes (inclusive 6 9)
second = record { start_is_key = omega arith; end_is_key = omega arith; non_empty = (refl, refl) }

pub returns-clause-gap : goal.returns-clause-gap
returns-clause-gap c = not_touching

pub returns-clause-apart : goal.returns-clause-apart
returns-clause-apart c = (first, (refl, λ t. absurd (not_touching t)), (second, tt, tt))
