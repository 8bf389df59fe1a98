-- What is made again of the ranges of a set.
use Rattle.std.proofs.Common.{◌≡◌, ℕ, zero, suc, true, List, [], ◌∷◌, Option, MatchOption, refl, sym, ap, ap₂, subst, ◌∙◌}
use Rattle.std.specs.Bool.{⊤}
use Rattle.std.specs.Cmp.{IsEquivalence}
use Rattle.std.specs.Iterator.{Drains, Yields}
use Rattle.std.specs.List.{slice_get}
use Rattle.std.specs.Map.Iter.{TakesFirst}
use Rattle.std.proofs.iter.runs.Made.{each, took}
use Rattle.rangemap_core.specs.Ranges.{RangeKind, IsCanonOfPoints, covers, same_pairs, same_ranges, unit_eq, value_at, with_unit}
use Rattle.rangemap_core.specs.engine.Endpoints.{EndpointOf, IsPlaced}
use Rattle.rangemap_core.proofs.OwnPairLemmas.{drained}
use Rattle.rangemap_core.proofs.UniquenessLemmas.{canon_unique}
use Rattle.rangemap_core.proofs.UnitLemmas.{units_same}
use Rattle.rangemap_core.specs.Sets.{AreNonEmptyRanges, GivesNonEmptyRanges, IsCanonicalSet}
use Rattle.rangemap_unions.proofs.UnitValueLemmas.{canon_of, ranges_with, value_covers}

module _ {K X : Type 0} (k : RangeKind K X) where
  pub unit_equiv : IsEquivalence (unit_eq k)
  unit_equiv = record { refl = λ x. refl; symm = λ x y. refl; congr = λ x y z h. refl }

  -- lists of ranges are equal where they are with the value that says nothing
  pub as_pairs : (list again : List X) → same_pairs k (unit_eq k) (with_unit k list) (with_unit k again) ≡ same_ranges k list again
  as_pairs list again = units_same k (with_unit k list) (with_unit k again) ∙ ap₂ (same_ranges k) (ranges_with k list) (ranges_with k again)

  -- canonical lists of the same points are equal
  pub same_points : {end_place : X → Option K} {part : EndpointOf X → EndpointOf X → X} → IsPlaced k end_place part → (list again : List X) → IsCanonicalSet k list → IsCanonOfPoints k (covers k list) again → same_ranges k list again ≡ true
  same_points p list again c h =
      let f : K → Option ⊤ = value_at k (with_unit k list) in
      let one = canon_of k f (covers k list) list (λ x key. value_covers k (with_unit k list) x ∙ ap (λ rs. covers k rs x) (ranges_with k list)) (record { canonical = c; points = λ x key. refl }) in
      let two = canon_of k f (covers k list) again (λ x key. value_covers k (with_unit k list) x ∙ ap (λ rs. covers k rs x) (ranges_with k list)) h in
      sym (as_pairs list again) ∙ canon_unique k p (unit_eq k) unit_equiv f (with_unit k list) (with_unit k again) one two

  -- what is made of the ranges of a set that are handed over is made of all of them
  pub made_again : (it list ranges again : List X) → it ≡ list → Drains (TakesFirst (λ r. r)) it ranges → IsCanonOfPoints k (covers k ranges) again → IsCanonOfPoints k (covers k list) again
  made_again it list ranges again is ran made = subst (λ rs. IsCanonOfPoints k (covers k rs) again) (sym (drained it ranges ran) ∙ is) made

  -- an iterator that owns the ranges of a set, and gives what it shows
  pub owned : (shows : X → X) → ((r : X) → shows r ≡ r) → (it list : List X) → it ≡ list → AreNonEmptyRanges k list → GivesNonEmptyRanges k (TakesFirst shows) it
  owned shows same it list is a p seen from = each p k.IsNonEmpty (everywhere p.items (front p.items p.from (took p).0 (took p).1 (subst (AreNonEmptyRanges k) (sym (from ∙ is)) a)))
    where
      front : (rs s t : List X) → Yields (TakesFirst shows) s rs t → AreNonEmptyRanges k s → AreNonEmptyRanges k rs
      front [] s t y b = tt
      front (r ∷ rs) s t ran b = let c = subst (AreNonEmptyRanges k) (ran.1 ∙ ap (λ x. x ∷ ran.0) (same r)) b in (c.0, front rs ran.0 t ran.2 c.1)

      everywhere : (rs : List X) → AreNonEmptyRanges k rs → (i : ℕ) → MatchOption (slice_get rs i) (Unit {0}) k.IsNonEmpty
      everywhere [] b i = tt
      everywhere (r ∷ rs) b zero = b.0
      everywhere (r ∷ rs) b (suc i) = everywhere rs b.1 i
