-- What may stand behind the last pair of a canonical list, and so behind that of an equal one.
use Rattle.std.proofs.Common.{arith, suc, ◌-◌, length, ◌≡◌, Bool, true, false, List, [], ◌∷◌, ◌++◌, Option, Some, refl, sym, ap, subst, ◌∙◌, true≢false, is_le}
use Rattle.std.specs.Cmp.{IsEquivalence, first_so, second_so}
use Rattle.std.specs.List.{slice_get}
use Rattle.rangemap_core.specs.Ranges.{RangeKind, IsStorable, IsCanonical, same_pair, same_pairs}
use Rattle.rangemap_core.specs.engine.Endpoints.{EndpointOf, IsPlaced}
use Rattle.rangemap_core.specs.engine.Places.{place_cmp}
use Rattle.rangemap_core.specs.laws.Orders.{itself}
use Rattle.rangemap_formats.specs.Entries.{Follows}
use Rattle.rangemap_formats.specs.Json.{EndsWith}
use Rattle.rangemap_core.proofs.EqualListLemmas.{IsSamePair, from_same, same_gap}

-- a list that is not empty ends with an item
pub ends : {A : Type 0} (a : A) (rest : List A) → (last : A) × EndsWith (a ∷ rest) last
ends a [] = (a, ([], refl))
ends a (b ∷ rest) = let r = ends b rest in (r.0, (a ∷ r.1.0, ap (λ xs. a ∷ xs) r.1.1))

-- it is the item at the last place
pub ends_with : {A : Type 0} (xs : List A) (a : A) → slice_get xs (length xs - 1) ≡ Some a → EndsWith xs a
ends_with [] a h = absurd cc
ends_with (x ∷ []) a h = let is : x ≡ a = cc in ([], rw is)
ends_with (x ∷ y ∷ rest) a h =
    let one : suc (length (y ∷ rest)) - 1 ≡ suc (length (y ∷ rest) - 1) = omega arith in
    let r = ends_with (y ∷ rest) a (rw one at h) in
    (x ∷ r.0, ap (λ ys. x ∷ ys) r.1)

behind_front : {A : Type 0} (front : List A) (a : A) → slice_get (front ++ a ∷ []) (length (front ++ a ∷ []) - 1) ≡ Some a
behind_front [] a = refl
behind_front (x ∷ []) a = refl
behind_front (x ∷ y ∷ front) a =
    let one : suc (length (y ∷ front ++ a ∷ [])) - 1 ≡ suc (length (y ∷ front ++ a ∷ []) - 1) = omega arith in
    rw one (behind_front (y ∷ front) a)

-- and so there is one
pub one_last : {A : Type 0} (xs : List A) (a b : A) → slice_get xs (length xs - 1) ≡ Some a → EndsWith xs b → a ≡ b
one_last xs a b h e = let there : slice_get xs (length xs - 1) ≡ Some b = rw e.1 (behind_front e.0 b) in cc

module _ {K X V : Type 0} (k : RangeKind K X) (eq : V → V → Bool) where
  pub last_storable : (front : List (X × V)) (last : X × V) → IsCanonical k eq (front ++ last ∷ []) → IsStorable k last.0
  last_storable [] last c = c.0
  last_storable (a ∷ front) last c = last_storable front last c.2

  behind_last : (front : List (X × V)) (last pair : X × V) → IsCanonical k eq (front ++ last ∷ []) → IsStorable k pair.0 → Follows k eq last pair → IsCanonical k eq ((front ++ last ∷ []) ++ pair ∷ [])
  behind_last [] last pair c s f = (c.0, (f.before, f.differs), (s, tt, tt))
  behind_last (a ∷ []) last pair c s f = (c.0, c.1, behind_last [] last pair c.2 s f)
  behind_last (a ∷ b ∷ front) last pair c s f = (c.0, c.1, behind_last (b ∷ front) last pair c.2 s f)

  -- one pair more
  pub canonical_more : (list : List (X × V)) (pair : X × V) → IsCanonical k eq list → IsStorable k pair.0 → ((last : X × V) → EndsWith list last → Follows k eq last pair) → IsCanonical k eq (list ++ pair ∷ [])
  canonical_more [] pair c s f = (s, tt, tt)
  canonical_more (a ∷ rest) pair c s f =
      let r = ends a rest in
      subst (λ (xs : List (X × V)). IsCanonical k eq (xs ++ pair ∷ [])) (sym r.1.1)
      (behind_last r.1.0 r.0 pair (subst (IsCanonical k eq) r.1.1 c) s (f r.0 r.1))

  -- the last pairs of equal lists are equal
  pub same_last : (front : List (X × V)) (last : X × V) (list : List (X × V)) → same_pairs k eq list (front ++ last ∷ []) ≡ true → (twin : X × V) × EndsWith list twin × IsSamePair k eq twin last
  same_last [] last [] h = absurd (true≢false (sym h))
  same_last [] last (a ∷ []) h = (a, ([], refl), from_same k eq a last (first_so (same_pair k eq a last) true h))
  same_last [] last (a ∷ b ∷ rest) h = absurd (true≢false (sym (second_so (same_pair k eq a last) false h)))
  same_last (o ∷ front) last [] h = absurd (true≢false (sym h))
  same_last (o ∷ front) last (a ∷ list) h =
      let r = same_last front last list (second_so (same_pair k eq a o) (same_pairs k eq list (front ++ last ∷ [])) h) in
      (r.0, (a ∷ r.1.0, ap (λ xs. a ∷ xs) r.1.1), r.2)

module _ {K X V : Type 0} (k : RangeKind K X) {end_place : X → Option K} {part : EndpointOf X → EndpointOf X → X} (p : IsPlaced k end_place part) (eq : V → V → Bool) (e : IsEquivalence eq) (a b : X × V) (same : IsSamePair k eq a b) (sa : IsStorable k a.0) (sb : IsStorable k b.0) (pair : X × V) (stored : IsStorable k pair.0) where
  gap : place_cmp k.cmp (end_place a.0) (Some (k.start pair.0)) ≡ place_cmp k.cmp (end_place b.0) (Some (k.start pair.0))
  gap = same_gap k p eq e a.0 pair.0 b.0 pair.0 sa sb same.ends (itself p.total (k.start pair.0))

  -- what stands before the pair, touches it or is equal to it does so as well as its twin
  pub before_as_twin : k.IsBefore a.0 pair.0 → k.IsBefore b.0 pair.0
  before_as_twin h = p.before_from b.0 pair.0 sb stored (sym (ap is_le gap) ∙ p.before a.0 pair.0 sa stored h)

  pub before_as_twin_back : k.IsBefore b.0 pair.0 → k.IsBefore a.0 pair.0
  before_as_twin_back h = p.before_from a.0 pair.0 sa stored (ap is_le gap ∙ p.before b.0 pair.0 sb stored h)

  pub touches_as_twin_back : k.Touches b.0 pair.0 → k.Touches a.0 pair.0
  touches_as_twin_back h = p.touches_from a.0 pair.0 sa stored (gap ∙ p.touches b.0 pair.0 sb stored h)

  pub equal_as_twin : eq a.1 pair.1 ≡ eq b.1 pair.1
  equal_as_twin = e.congr a.1 b.1 pair.1 same.values

  pub follows_as_twin : Follows k eq a pair → Follows k eq b pair
  follows_as_twin f = record {
    before = before_as_twin f.before;
    differs = λ h. sym equal_as_twin ∙ f.differs (touches_as_twin_back h);
  }
