-- How an iterator that makes the ranges it gives comes to its end.
use Rattle.std.proofs.Common.{arith, ◌≢◌, ◌<◌, List, [], ◌∷◌, length, Option, Some, None, Result, Ok, Err, ap, refl}
use Rattle.std.specs.Iterator.{MakesProgress, Yields, at_most}
use Rattle.std.specs.declared.alloc.AllocError.{AllocError}
use Rattle.rangemap_core.specs.MadeRanges.{GivesNext, GivesRange}
use Rattle.rangemap_core.specs.Ranges.{RangeKind}

has_length : {X : Type 0} (xs : List X) → xs ≢ [] → 0 < length xs
has_length [] some = absurd (some refl)
has_length (x ∷ xs) some = omega arith

module _ {K X S : Type 0} (k : RangeKind K X) (left : S → List X) {Asks : Type 0} (asks : Asks) (old new : S) where
  -- each item, and a refusal, leaves fewer ranges to come
  pub comes_nearer_its_end : (answer : Option (Result X AllocError)) → GivesRange k (left old) answer (left new) → MakesProgress (λ _. Asks) (λ s. at_most (length (left s))) old answer new
  comes_nearer_its_end None ended = record { on = λ finite. tt; keeps = tt; rests = λ finite. finite }
  comes_nearer_its_end (Some (Ok range)) given = record { on = λ finite. (asks, finite, omega (arith, ap length given.1)); keeps = asks; rests = λ finite. tt }
  comes_nearer_its_end (Some (Err e)) refused =
      let some = has_length (left old) refused.0 in
      record { on = λ finite. (asks, finite, omega (arith, some, ap length refused.1)); keeps = asks; rests = λ finite. tt }

-- what was given so far, whether or not a refusal could have come
pub given_so_far : {K X : Type 0} (k : RangeKind K X) (surely : Type 0) (start : List X) (items : List (Result X AllocError)) (left : List X) → Yields (GivesNext k surely) start items left → Yields (GivesRange k) start items left
given_so_far k surely start [] left ran = ran
given_so_far k surely start (item ∷ items) left ran = (ran.0, ran.1.0, given_so_far k surely ran.0 items left ran.2)
