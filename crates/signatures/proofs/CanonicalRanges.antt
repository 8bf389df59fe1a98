use Rattle.std.proofs.Common.{List, [], ◌∷◌, ◌≡◌, refl}
use Rattle.std.specs.Map.Iter.{TakesFirst}
use Rattle.rangemap.specs.Ranges.{RangeKind}
use Rattle.rangemap.specs.Sets.{AreNonEmptyRanges, GivesNonEmptyRanges, IsCanonicalSet}
use Rattle.rangemap.proofs.SetRoundTripLemmas.{owned}

-- each range of a set is non-empty
canonical_non_empty : {K X : Type 0} (k : RangeKind K X) (ranges : List X) → IsCanonicalSet k ranges → AreNonEmptyRanges k ranges
canonical_non_empty k [] canonical = tt
canonical_non_empty k (range ∷ ranges) canonical = (canonical.0.non_empty, canonical_non_empty k ranges canonical.2)

-- so is each that a set hands over
pub handed_over : {K X : Type 0} (k : RangeKind K X) (it : List X) {ranges : List X} → it ≡ ranges → IsCanonicalSet k ranges → GivesNonEmptyRanges k (TakesFirst (λ range. range)) it
handed_over k it {ranges} is canonical = owned k (λ range. range) (λ range. refl) it ranges is (canonical_non_empty k ranges canonical)
