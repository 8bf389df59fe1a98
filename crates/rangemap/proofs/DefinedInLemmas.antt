-- What the stored ranges that overlap a range tell of the keys of the range, and so what `overlaps` tells: some key has a value, or none.
use Rattle.std.proofs.Common.{arith, ◌≡◌, ◌≢◌, Bool, true, false, List, [], ◌∷◌, length, nat_lt, Option, Some, None, is_some, refl, sym, ap, ◌∙◌, true≢false}
use Rattle.std.proofs.lemmas.Bool.Decides.{nat_tests}
use Rattle.rangemap_core.specs.Ranges.{RangeKind, IsCanonical, IsStorable, covers, overlapped, value_at}
use Rattle.rangemap_core.specs.Sets.{ranges}
use Rattle.rangemap_core.specs.engine.Endpoints.{IsPlaced, EndpointOf}
use Rattle.rangemap_core.proofs.StoredKeyLemmas.{covered_where_one_meets, free_where_none_meets, none_meets_where_free}
use Rattle.rangemap_core.proofs.UnitValueLemmas.{value_covers}
use Rattle.rangemap_containers.specs.Histories.{IsUndefinedOn}
use Rattle.rangemap.specs.DefinedIn.{IsDefinedIn}

module _ {K X : Type 0} {k : RangeKind K X} {end_place : X → Option K} {part : EndpointOf X → EndpointOf X → X} (p : IsPlaced k end_place part) {V : Type 0} (eq : V → V → Bool) (q : X) (stored : IsStorable k q) where
  -- where no stored range overlaps a range, none of its keys has a value
  pub undefined_where_none_meets : (list : List (X × V)) → IsCanonical k eq list → overlapped k list q ≡ [] → IsUndefinedOn k (value_at k list) q
  undefined_where_none_meets list can none x key h = none_is (value_at k list x) (value_covers k list x ∙ free_where_none_meets p eq q stored list can none x key h)
    where
      none_is : (o : Option V) → is_some o ≡ false → o ≡ None
      none_is None h = refl
      none_is (Some v) h = absurd (true≢false h)

  -- where one overlaps it, some key of it has one
  pub defined_where_one_meets : (list : List (X × V)) → IsCanonical k eq list → overlapped k list q ≢ [] → IsDefinedIn k (value_at k list) q
  defined_where_one_meets list can some = by (value_at k list at.0) refl (value_covers k list at.0 ∙ at.3)
    where
      at : (x : K) × k.is_key x × (k.holds q x ≡ true) × (covers k (ranges list) x ≡ true)
      at = covered_where_one_meets p eq q stored list can some

      by : (o : Option V) → value_at k list at.0 ≡ o → is_some o ≡ true → IsDefinedIn k (value_at k list) q
      by None e h = absurd (true≢false (sym h))
      by (Some v) e h = record { key = at.0; is_key = at.1; holds = at.2; value = v; is = e }

  -- where none has, none overlaps it
  pub none_meets_where_undefined : (list : List (X × V)) → IsCanonical k eq list → IsUndefinedOn k (value_at k list) q → overlapped k list q ≡ []
  none_meets_where_undefined list can free = none_meets_where_free p eq q stored list can (λ x key h. sym (value_covers k list x) ∙ ap is_some (free x key h))

  module _ (list : List (X × V)) (can : IsCanonical k eq list) where
    -- `overlaps` is false: no key of the range has a value
    pub undefined_by_overlaps : nat_lt 0 (length (overlapped k list q)) ≡ false → IsUndefinedOn k (value_at k list) q
    undefined_by_overlaps h = undefined_where_none_meets list can (none_there (overlapped k list q) h)
      where
        none_there : (xs : List (X × V)) → nat_lt 0 (length xs) ≡ false → xs ≡ []
        none_there [] h = refl
        none_there (x ∷ xs) h = absurd (grind (arith, nat_tests, h))

    -- it is true: some key has one
    pub defined_by_overlaps : nat_lt 0 (length (overlapped k list q)) ≡ true → IsDefinedIn k (value_at k list) q
    defined_by_overlaps h = defined_where_one_meets list can (some_there (overlapped k list q) h)
      where
        some_there : (xs : List (X × V)) → nat_lt 0 (length xs) ≡ true → xs ≢ []
        some_there [] h none = true≢false (sym h)
        some_there (x ∷ xs) h none = cc

    -- some key has one: it is true
    pub overlaps_some : IsDefinedIn k (value_at k list) q → nat_lt 0 (length (overlapped k list q)) ≡ true
    overlaps_some some = go (nat_lt 0 (length (overlapped k list q))) refl
      where
        not_some : {o : Option V} (v : V) → o ≡ None → o ≡ Some v → ⊥
        not_some v a b = cc

        go : (b : Bool) → nat_lt 0 (length (overlapped k list q)) ≡ b → b ≡ true
        go true h = refl
        go false h = absurd (not_some some.value (undefined_by_overlaps h some.key some.is_key some.holds) some.is)
