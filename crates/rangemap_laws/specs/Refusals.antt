-- What a law of several calls leaves where one is refused.
use Rattle.std.specs.Prelude.{◌≡◌, ◌⊎◌, Bool, List, [], ◌∷◌, Option}
use Rattle.rangemap_core.specs.Ranges.{IsCanonOf, RangeKind}

module _ {K X V : Type 0} (k : RangeKind K X) (eq : V → V → Bool) where
  -- the new list is the canonical list of one of the functions, or the old one
  abbrev pub IsOneOfOrOld : List (K → Option V) → List (X × V) → List (X × V) → Type 0
  IsOneOfOrOld [] old new = new ≡ old
  IsOneOfOrOld (f ∷ fs) old new = IsCanonOf k eq f new ⊎ IsOneOfOrOld fs old new
