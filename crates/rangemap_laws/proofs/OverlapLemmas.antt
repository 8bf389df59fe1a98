-- What `covers` tells of the keys of a range and of its gaps.
use Rattle.std.proofs.Common.{◌≡◌, ◌↔◌, IsTrue, Bool, true, List, length, nat_eq, Option, Some, None, is_some, refl, sym, ◌∙◌, true≢false}
use Rattle.std.specs.Cmp.{both_ways}
use Rattle.rangemap_core.specs.Ranges.{RangeKind, AreGaps, IsStorable, value_at}
use Rattle.rangemap_core.specs.Sets.{ranges}
use Rattle.rangemap_core.specs.engine.Endpoints.{IsPlaced, EndpointOf}
use Rattle.rangemap_core.proofs.StoredKeyLemmas.{holds_start}
use Rattle.rangemap_containers.specs.Histories.{IsDefinedOn}
use Rattle.rangemap_containers.proofs.CoveredLemmas.{covered_where_none_left, defined_where_covered}
use Rattle.rangemap.specs.DefinedIn.{IsDefinedIn}

module _ {K X : Type 0} {k : RangeKind K X} {end_place : X → Option K} {part : EndpointOf X → EndpointOf X → X} (p : IsPlaced k end_place part) where
  -- where each key of the range has a value, its start has one
  pub defined_in_where_on : {V : Type 0} (q : X) → IsStorable k q → (list : List (X × V)) → IsDefinedOn k (value_at k list) q → IsDefinedIn k (value_at k list) q
  defined_in_where_on {V} q stored list all = by (value_at k list (k.start q)) refl (all (k.start q) stored.start_is_key (holds_start p q stored))
    where
      by : (o : Option V) → value_at k list (k.start q) ≡ o → is_some o ≡ true → IsDefinedIn k (value_at k list) q
      by None e h = absurd (true≢false (sym h))
      by (Some v) e h = record { key = k.start q; is_key = stored.start_is_key; holds = holds_start p q stored; value = v; is = e }

  -- a range has no gap exactly where `covers` is true
  pub no_gap_where_covered : {V : Type 0} (list : List (X × V)) (q : X) (gaps : List X) → AreGaps k (ranges list) q gaps
      → (covered none : Bool) → IsTrue covered ↔ IsDefinedOn k (value_at k list) q → none ≡ nat_eq (length gaps) 0 → none ≡ covered
  no_gap_where_covered list q gaps are covered none h e =
      let defined = defined_where_covered k list q (nat_eq (length gaps) 0) (covered_where_none_left p (k.holds q) (ranges list) gaps are) in
      e ∙ both_ways (nat_eq (length gaps) 0) covered (λ t. h.1 (defined.0 t)) (λ t. defined.1 (h.0 t))
