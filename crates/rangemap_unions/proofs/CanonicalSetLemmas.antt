-- What the engines keep: their items are not empty.
use Rattle.std.proofs.Common.{◌≡◌, List, [], ◌∷◌, ◌++◌, Option, Some, None, refl, ap, sym, subst, ◌∙◌}
use Rattle.std.specs.List.{AllByRecursion}
use Rattle.std.specs.Map.Iter.{TakesLast}
use Rattle.rangemap_core.specs.Ranges.{RangeKind}
use Rattle.rangemap_core.specs.Sets.{AreHulls, AreNonEmptyRanges, IsCanonicalSet, IsHull, ranges}

module _ {K X : Type 0} (k : RangeKind K X) where
  pub canonical_non_empty : (rs : List X) → IsCanonicalSet k rs → AreNonEmptyRanges k rs
  canonical_non_empty [] h = tt
  canonical_non_empty (r ∷ rs) h = (h.0.non_empty, canonical_non_empty rs h.2)

  all_hulls : (given items : List X) → AllByRecursion (IsHull k given) items → AreNonEmptyRanges k items
  all_hulls given [] h = tt
  all_hulls given (r ∷ rs) h = (h.0.non_empty, all_hulls given rs h.1)

  pub hulls_non_empty : (given items : List X) → AreHulls k given items → AreNonEmptyRanges k items
  hulls_non_empty given items h = all_hulls given items h.hulls

  pub canonical_front : (rs : List X) (r : X) → IsCanonicalSet k (rs ++ r ∷ []) → IsCanonicalSet k rs
  canonical_front [] r h = tt
  canonical_front (s ∷ []) r h = (h.0, tt, tt)
  canonical_front (s ∷ t ∷ rs) r h = (h.0, h.1, canonical_front (t ∷ rs) r h.2)

  ranges_last : {V : Type 0} (ps : List (X × V)) (p : X × V) → ranges (ps ++ p ∷ []) ≡ ranges ps ++ p.0 ∷ []
  ranges_last [] p = refl
  ranges_last (q ∷ ps) p = ap (λ rs. q.0 ∷ rs) (ranges_last ps p)

  -- the same of what an iterator has left when its last pair was taken
  pub front_of : {A V : Type 0} (shows : A → X × V) (old : List (X × V)) (taken : Option A) (new : List (X × V)) → IsCanonicalSet k (ranges old) → TakesLast shows old taken new → IsCanonicalSet k (ranges new)
  front_of shows old None new can h = subst (λ ps. IsCanonicalSet k (ranges ps)) (sym h.1) tt
  front_of shows old (Some x) new can h = canonical_front (ranges new) (shows x).0 (subst (IsCanonicalSet k) (ap ranges h ∙ ranges_last new (shows x)) can)
