-- What it tells of keys that a range, or each range of a list, is covered, or is not.
use Rattle.std.proofs.Common.{arith, ◌≡◌, ◌↔◌, IsTrue, Option, subst, Bool, true, false, not, ◌&&◌, ◌||◌, List, [], ◌∷◌, length, nat_eq, nat_lt, refl, sym, ap, ◌∙◌, true≢false}
use Rattle.std.proofs.lemmas.Bool.Decides.{nat_tests}
use Rattle.rangemap_core.specs.Ranges.{RangeKind, IsCanonical, IsCanonOfPoints, IsStorable, covers, overlapped, value_at}
use Rattle.rangemap_core.specs.Sets.{AreCovered, AreDisjoint, IsEach, ranges}
use Rattle.rangemap_core.specs.engine.Endpoints.{EndpointOf, AtStart, IsAsked, IsPlaced, gaps_from}
use Rattle.rangemap_core.proofs.GapLemmas.{are_gaps, covers-cons}
use Rattle.rangemap_core.proofs.StoredKeyLemmas.{free_where_none_meets, holds_start, none_meets_where_free}
use Rattle.rangemap_core.proofs.UnitValueLemmas.{value_covers}
use Rattle.rangemap_containers.specs.Histories.{IsDefinedOn}

left_tests : (h c : Bool) → false ≡ (h && not c) → h ≡ true → c ≡ true
left_tests h c e w = grind (arith, nat_tests)

free_tests : (h c : Bool) → true ≡ (h && not c) → (h ≡ true) × (c ≡ false)
free_tests true true e = absurd (true≢false e)
free_tests true false e = (refl, refl)
free_tests false c e = absurd (true≢false e)

module _ {K X : Type 0} {k : RangeKind K X} {end_place : X → Option K} {part : EndpointOf X → EndpointOf X → X} (p : IsPlaced k end_place part) where
  -- nothing is left of the keys that pass a test exactly where each of them is covered
  pub covered_where_none_left : (test : K → Bool) (rs rest : List X) → IsCanonOfPoints k (λ x. test x && not (covers k rs x)) rest → IsTrue (nat_eq (length rest) 0) ↔ AreCovered k test rs
  covered_where_none_left test rs [] h = (λ _ x key here. left_tests (test x) (covers k rs x) (h.points x key) here, λ _. refl)
  covered_where_none_left test rs (r ∷ rest) h = (λ e. absurd (grind (arith, nat_tests, e)), λ all. absurd (true≢false (sym (all at key free.0) ∙ free.1)))
    where
      stored : IsStorable k r
      stored = h.canonical.0

      at : K
      at = k.start r

      key : k.is_key at
      key = stored.start_is_key

      free : (test at ≡ true) × (covers k rs at ≡ false)
      free = free_tests (test at) (covers k rs at) (sym (covers-cons k r rest at ∙ ap (λ b. b || covers k rest at) (holds_start p r stored)) ∙ h.points at key)

  module _ {V : Type 0} (eq : V → V → Bool) (list : List (X × V)) (can : IsCanonical k eq list) (q : X) where
    pub covered_by_gaps_from : IsAsked k q → IsTrue (nat_eq (length (gaps_from k end_place part (AtStart q) q (overlapped k list q))) 0) ↔ AreCovered k (k.holds q) (ranges list)
    covered_by_gaps_from q_asked = covered_where_none_left (k.holds q) (ranges list) _ (are_gaps p eq q q_asked list can)

    -- no stored range overlaps a range exactly where none of its keys is covered
    pub free_by_overlaps : IsStorable k q → IsTrue (not (nat_lt 0 (length (overlapped k list q)))) ↔ IsEach k false (k.holds q) (ranges list)
    free_by_overlaps stored = (
      λ h. free_where_none_meets p eq q stored list can (none_of (overlapped k list q) h),
      λ free. ap (λ xs. not (nat_lt 0 (length xs))) (none_meets_where_free p eq q stored list can free),
    )
      where
        none_of : (xs : List (X × V)) → not (nat_lt 0 (length xs)) ≡ true → xs ≡ []
        none_of [] h = refl
        none_of (x ∷ xs) h = absurd (grind (arith, nat_tests, h))

-- ---- one range after another

module _ {K X V : Type 0} (k : RangeKind K X) (b : Bool) (qs : List X) where
  -- the answer for all ranges is that for those that are left
  abbrev pub SameAnswer : List (X × V) → List (X × V) → Type 0
  SameAnswer all rest = IsEach k b (covers k (ranges all)) qs ↔ IsEach k b (covers k (ranges rest)) qs

  pub same_answer : (all : List (X × V)) → SameAnswer all all
  same_answer all = (λ h. h, λ h. h)

  each_first : (a : X × V) (rest : List (X × V)) → IsEach k b (covers k (ranges (a ∷ rest))) qs → IsEach k b (k.holds a.0) qs
  each_first a rest h x key here = h x key (covers-cons k a.0 (ranges rest) x ∙ or_left (k.holds a.0 x) (covers k (ranges rest) x) here)
    where
      or_left : (a b : Bool) → a ≡ true → (a || b) ≡ true
      or_left true b h = refl
      or_left false b h = absurd (true≢false (sym h))

  each_rest : (a : X × V) (rest : List (X × V)) → IsEach k b (covers k (ranges (a ∷ rest))) qs → IsEach k b (covers k (ranges rest)) qs
  each_rest a rest h x key here = h x key (covers-cons k a.0 (ranges rest) x ∙ or_right (k.holds a.0 x) (covers k (ranges rest) x) here)
    where
      or_right : (a b : Bool) → b ≡ true → (a || b) ≡ true
      or_right true b h = refl
      or_right false b h = h

  each_of : (a : X × V) (rest : List (X × V)) → IsEach k b (k.holds a.0) qs → IsEach k b (covers k (ranges rest)) qs → IsEach k b (covers k (ranges (a ∷ rest))) qs
  each_of a rest first others x key here = by (k.holds a.0 x) refl (sym (covers-cons k a.0 (ranges rest) x) ∙ here)
    where
      by : (t : Bool) → k.holds a.0 x ≡ t → (t || covers k (ranges rest) x) ≡ true → covers k qs x ≡ b
      by true e w = first x key e
      by false e w = others x key w

  -- a range whose keys are as they are wanted was passed
  pub same_passed : (all old : List (X × V)) (a : X × V) (rest : List (X × V)) → SameAnswer all old → old ≡ a ∷ rest → (result : Bool) → IsTrue result ↔ IsEach k b (k.holds a.0) qs → result ≡ true → SameAnswer all rest
  same_passed all old a rest same is result one is_so = (
    λ h. each_rest a rest (subst (λ ps. IsEach k b (covers k (ranges ps)) qs) is (same.0 h)),
    λ h. same.1 (subst (λ ps. IsEach k b (covers k (ranges ps)) qs) (sym is) (each_of a rest (one.0 is_so) h)),
  )

  -- one was found whose keys are not
  pub not_each : (all old : List (X × V)) (a : X × V) (rest : List (X × V)) → SameAnswer all old → old ≡ a ∷ rest → (result : Bool) → IsTrue result ↔ IsEach k b (k.holds a.0) qs → result ≡ false → IsTrue false ↔ IsEach k b (covers k (ranges all)) qs
  not_each all old a rest same is result one is_not = (
    λ e. absurd (true≢false (sym e)),
    λ h. absurd (true≢false (sym (one.1 (each_first a rest (subst (λ ps. IsEach k b (covers k (ranges ps)) qs) is (same.0 h)))) ∙ is_not)),
  )

  -- all were passed
  pub all_passed : (all old : List (X × V)) → SameAnswer all old → old ≡ [] → IsTrue true ↔ IsEach k b (covers k (ranges all)) qs
  all_passed all old same is = (λ _. same.1 (subst (λ ps. IsEach k b (covers k (ranges ps)) qs) (sym is) (λ x key h. absurd (true≢false (sym h)))), λ _. refl)

-- ---- either way

pub disjoint_turned : {K X : Type 0} (k : RangeKind K X) (ps qs : List X) (result : Bool) → IsTrue result ↔ AreDisjoint k qs ps → IsTrue result ↔ AreDisjoint k ps qs
disjoint_turned {K} {X} k ps qs result h = (λ e. turn qs ps (h.0 e), λ all. h.1 (turn ps qs all))
  where
    false_by : (b : Bool) → (b ≡ true → ⊥) → b ≡ false
    false_by true h = absurd (h refl)
    false_by false h = refl

    turn : (rs ss : List X) → AreDisjoint k rs ss → AreDisjoint k ss rs
    turn rs ss all x key here = false_by (covers k rs x) (λ there. true≢false (sym here ∙ all x key there))

-- ---- of maps

-- each key of a range is covered exactly where each has a value
pub defined_where_covered : {K X V : Type 0} (k : RangeKind K X) (list : List (X × V)) (q : X) (result : Bool) → IsTrue result ↔ AreCovered k (k.holds q) (ranges list) → IsTrue result ↔ IsDefinedOn k (value_at k list) q
defined_where_covered k list q result h = (
  λ e x key here. value_covers k list x ∙ h.0 e x key here,
  λ all. h.1 (λ x key here. sym (value_covers k list x) ∙ all x key here),
)
