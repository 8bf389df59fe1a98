-- The gaps that a map leaves in a range, and the keys that it covers, part the range.
use Rattle.std.proofs.Common.{◌≡◌, ℕ, zero, suc, ◌<◌, Bool, false, not, ◌&&◌, ◌||◌, List, [], ◌∷◌, map, length, get_or, Option, Some, Less, sym, ap, ◌∙◌, arith}
use Rattle.std.proofs.lemmas.Bool.Decides.{nat_tests}
use Rattle.std.specs.Cmp.{IsTotalOrder}
use Rattle.std.specs.Option.{is_some}
use Rattle.rangemap_core.specs.engine.Endpoints.{IsPlaced, EndpointOf}
use Rattle.rangemap_core.specs.Ranges.{RangeKind, IsCanonical, IsStorable, AreGaps, covering, covers, unit_eq, with_unit}
use Rattle.rangemap_core.specs.engine.Places.{place_cmp}
use Rattle.rangemap_core.specs.engine.PlacedKinds.{place_total}
use Rattle.rangemap_core.specs.laws.Orders.{Less-Equal, lt_lt}
use Rattle.rangemap_core.proofs.StoredKeyLemmas.{ends_before}
use Rattle.rangemap_core.proofs.UnitValueLemmas.{covering_covers}
use Rattle.rangemap_laws.specs.GapPartition.{IsPartition}

apart_tests : (h c : Bool) → ((h && not c) && c) ≡ false
apart_tests h c = grind (arith, nat_tests)

together_tests : (h c : Bool) → ((h && not c) || (h && c)) ≡ h
together_tests h c = grind (arith, nat_tests)

module _ {K X : Type 0} {k : RangeKind K X} {end_place : X → Option K} {part : EndpointOf X → EndpointOf X → X} (p : IsPlaced k end_place part) where
  o : IsTotalOrder (place_cmp k.cmp)
  o = place_total p.total

  below_later : (r : X) (rest : List X) → IsCanonical k (unit_eq k) (with_unit k (r ∷ rest)) → (j : ℕ) (d : X) → j < length rest
      → (place_cmp k.cmp (end_place r) (Some (k.start (get_or rest j d))) ≡ Less) × IsStorable k (get_or rest j d)
  below_later r [] can j d l = absurd (omega arith)
  below_later r (s ∷ rest) can zero d l = (ends_before p r s rest can, can.2.0)
  below_later r (s ∷ rest) can (suc j) d l =
      let later = below_later s rest can.2 j d (omega arith) in
      (lt_lt o {a = end_place r} {b = Some (k.start s)} {c = Some (k.start (get_or rest j d))} (ends_before p r s rest can) (lt_lt o {a = Some (k.start s)} {b = end_place s} {c = Some (k.start (get_or rest j d))} (p.non_empty s can.2.0) later.0), later.1)

  storable_at : (ranges : List X) → IsCanonical k (unit_eq k) (with_unit k ranges) → (i : ℕ) (d : X) → i < length ranges → IsStorable k (get_or ranges i d)
  storable_at [] can i d l = absurd (omega arith)
  storable_at (r ∷ rest) can zero d l = can.0
  storable_at (r ∷ rest) can (suc i) d l = storable_at rest can.2 i d (omega arith)

  no_touch : (ranges : List X) → IsCanonical k (unit_eq k) (with_unit k ranges) → (i j : ℕ) (d : X) → i < j → j < length ranges → k.Touches (get_or ranges i d) (get_or ranges j d) → ⊥
  no_touch [] can i j d lt l t = absurd (omega arith)
  no_touch (r ∷ rest) can i zero d lt l t = absurd (omega arith)
  no_touch (r ∷ rest) can zero (suc j) d lt l t =
      let later = below_later r rest can j d (omega arith) in
      Less-Equal later.0 (p.touches r (get_or rest j d) can.0 later.1 t)
  no_touch (r ∷ rest) can (suc i) (suc j) d lt l t = no_touch rest can.2 i j d (omega arith) (omega arith) t

  pub parted : {V : Type 0} (list : List (X × V)) (gaps : List X) (q : X) → AreGaps k (map (λ p. p.0) list) q gaps → IsPartition k q gaps (λ x. is_some (covering k list x))
  parted list gaps q g = record {
    apart = λ x key. (λ i. points x key i && is_some (covering k list x)) ∙ apart_tests (k.holds q x) (is_some (covering k list x));
    together = λ x key. (λ i. points x key i || (k.holds q x && is_some (covering k list x))) ∙ together_tests (k.holds q x) (is_some (covering k list x));
    non_empty = λ i d l. (storable_at gaps g.canonical i d l).non_empty;
    none_touch = no_touch gaps g.canonical;
  }
    where
      points : (x : K) → k.is_key x → covers k gaps x ≡ (k.holds q x && not (is_some (covering k list x)))
      points x key = g.points x key ∙ ap (λ c. k.holds q x && not c) (sym (covering_covers k list x))
