-- Iterators that hand items over give those of the list that is left.
use Rattle.std.proofs.Common.{◌≡◌, ℕ, zero, suc, List, [], ◌∷◌, Option, Some, None, MatchOption, ap, subst, sym}
use Rattle.std.specs.List.{slice_get}
use Rattle.std.specs.Iterator.{Drains, Yields}
use Rattle.std.proofs.iter.runs.Made.{each, took}
use Rattle.std.specs.Map.Iter.{TakesFirst}
use Rattle.rangemap_core.specs.NonEmptyPairs.{GivesNonEmpty}
use Rattle.rangemap_core.specs.Ranges.{RangeKind, AreNonEmpty}

module _ {A S : Type 0} (left : S → List A) {steps : S → Option A → S → Type 0} (takes : (it : S) (taken : Option A) (rest : S) → steps it taken rest → TakesFirst (λ item. item) (left it) taken (left rest)) where
  shown : (s : S) (ys : List A) (t : S) → Yields steps s ys t → Yields (TakesFirst (λ item. item)) (left s) ys (left t)
  shown s [] t ran = ap left ran
  shown s (y ∷ ys) t ran = (left ran.0, takes s (Some y) ran.0 ran.1, shown ran.0 ys t ran.2)

  -- the same of all calls
  pub all_shown : (s : S) (ys : List A) → Drains steps s ys → Drains (TakesFirst (λ item. item)) (left s) ys
  all_shown s ys ran = (left ran.0, (left ran.1.0, shown s ys ran.1.0 ran.1.1, takes ran.1.0 None ran.0 ran.1.2))

module _ {K X V S : Type 0} (k : RangeKind K X) (left : S → List (X × V)) {steps : S → Option (X × V) → S → Type 0} (takes : (it : S) (taken : Option (X × V)) (rest : S) → steps it taken rest → TakesFirst (λ pair. pair) (left it) taken (left rest)) where
  non_empty_items : (s : S) (ys : List (X × V)) (t : S) → Yields steps s ys t → AreNonEmpty k (left s) → (i : ℕ) → MatchOption (slice_get ys i) (Unit {0}) (λ pair. k.IsNonEmpty pair.0)
  non_empty_items s [] t ran a i = tt
  non_empty_items s (y ∷ ys) t ran a zero = (subst (AreNonEmpty k) (takes s (Some y) ran.0 ran.1) a).0
  non_empty_items s (y ∷ ys) t ran a (suc i) = non_empty_items ran.0 ys t ran.2 (subst (AreNonEmpty k) (takes s (Some y) ran.0 ran.1) a).1 i

  -- an iterator that hands the pairs of a map over
  pub handed : (it : S) (list : List (X × V)) → left it ≡ list → AreNonEmpty k list → GivesNonEmpty k steps it
  handed it list is a p seen from =
      each p (λ pair. k.IsNonEmpty pair.0) (non_empty_items p.from p.items (took p).0 (took p).1 (subst (λ s. AreNonEmpty k (left s)) (sym from) (subst (AreNonEmpty k) (sym is) a)))
