-- Those ranges of a canonical list that pass a test are a canonical list too.
use Rattle.std.proofs.Common.{◌≡◌, Bool, true, false, cond, List, [], ◌∷◌, filter, Less}
use Rattle.rangemap_core.specs.operations.PlaceLaws.{HasPlaces}
use Rattle.rangemap_core.specs.operations.Places.{RangePlaces}
use Rattle.rangemap_core.specs.laws.Orders.{itself, le_Equal, le_Less, le_lt, lt_le}
use Rattle.rangemap_core.specs.Ranges.{RangeKind}
use Rattle.rangemap_core.specs.Sets.{IsCanonicalSet, met}

module _ {K X P : Type 0} {k : RangeKind K X} {l : RangePlaces P X} {at cut : K → P} (p : HasPlaces k l at cut) where
  -- a list without its second range
  without_second : (r s : X) (rest : List X) → IsCanonicalSet k (r ∷ s ∷ rest) → IsCanonicalSet k (r ∷ rest)
  without_second r s [] h = (h.0, tt, tt)
  without_second r s (u ∷ rest) h = (h.0, (p.before_from r u (le_Less far), λ touch. h.1.1 (near touch)), h.2.2)
    where
      later : l.order (l.start_place s) (l.start_place u) ≡ Less
      later = lt_le p.total (p.non_empty s h.2.0.non_empty) (p.before s u h.2.1.0)

      far : l.order (l.end_place r) (l.start_place u) ≡ Less
      far = le_lt p.total (p.before r s h.1.0) later

      near : k.Touches r u → k.Touches r s
      near = p.touches_within r u r s h.1.0 (le_Equal (itself p.total (l.end_place r))) (le_Less later)

  behind : (test : X → Bool) (r : X) (rs : List X) → IsCanonicalSet k (r ∷ rs) → IsCanonicalSet k (r ∷ filter test rs)
  behind test r [] h = h
  behind test r (s ∷ rs) h = by (behind test s rs h.2) (behind test r rs (without_second r s rs h)) (test s)
    where
      by : IsCanonicalSet k (s ∷ filter test rs) → IsCanonicalSet k (r ∷ filter test rs) → (b : Bool) → IsCanonicalSet k (r ∷ cond b (s ∷ filter test rs) (filter test rs))
      by taken left true = (h.0, h.1, taken)
      by taken left false = left

  filtered : (test : X → Bool) (rs : List X) → IsCanonicalSet k rs → IsCanonicalSet k (filter test rs)
  filtered test [] h = tt
  filtered test (r ∷ rs) h = by (behind test r rs h) (filtered test rs h.2) (test r)
    where
      by : IsCanonicalSet k (r ∷ filter test rs) → IsCanonicalSet k (filter test rs) → (b : Bool) → IsCanonicalSet k (cond b (r ∷ filter test rs) (filter test rs))
      by taken left true = taken
      by taken left false = left

  -- so are those that a query meets
  pub canonical_met : (rs : List X) (q : X) → IsCanonicalSet k rs → IsCanonicalSet k (met k rs q)
  canonical_met rs q h = filtered (λ r. k.meets q r) rs h
