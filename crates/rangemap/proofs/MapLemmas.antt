-- A map's answers, as those of the set that shows its ranges.
use Rattle.std.proofs.Common.{◌≡◌, Bool, List, [], ◌∷◌, ℕ, zero, suc, ◌-◌, Option, option_map, slice_get, length, is_some, Some, None, refl, sym, ap, subst, ◌∙◌, nat_lt}
use Rattle.std.specs.Bool.{⊤}
use Rattle.std.specs.Borrow.{Bor}
use Rattle.std.specs.Hash.{HashWrites}
use Rattle.std.specs.declared.cmp.Ordering.TheVariants.{Equal}
use Rattle.rangemap_core.specs.Ranges.{RangeKind, IsCanonOf, IsCanonical, IsCanonOfPoints, covering, covers, erase, overlapped, override, same_pairs, same_ranges, unit_eq, value_at, with_unit}
use Rattle.rangemap_core.specs.Appends.{AppendsGaps}
use Rattle.rangemap_core.specs.Hashes.{pairs_fed, ranges_fed}
use Rattle.rangemap_core.specs.ListOrder.{pairs_cmp, ranges_cmp}
use Rattle.rangemap_core.specs.operations.PlaceLaws.{HasPlaces}
use Rattle.rangemap_core.specs.operations.Places.{RangePlaces}
use Rattle.rangemap_core.proofs.MetLemmas.{canonical_met}
use Rattle.rangemap_core.proofs.StoredLemmas.{non_empty_at}
use Rattle.rangemap_core.proofs.UnitLemmas.{units_cmp, units_fed, units_same}
use Rattle.rangemap_core.specs.Sets.{Adds, IsCanonicalSet, TakesOut, met, range_at, ranges}
use Rattle.rangemap_unions.proofs.UnitValueLemmas.{added, canonical_ranges, covering_covers, covering_range, points_of, ranges_met, taken_out, value_covers, with_ranges}

module _ {K X : Type 0} (k : RangeKind K X) (ps : List (X × ⊤)) (list : List X) (is : ranges ps ≡ list) where
  pub overlapping : (q : X) (given : List (X × ⊤)) (result : List X) → given ≡ overlapped k ps q → result ≡ ranges given → result ≡ met k list q
  overlapping q given result found shown = shown ∙ ap ranges found ∙ ranges_met k ps q ∙ ap (λ rs. met k rs q) is

  -- what overlaps a range is a canonical list too
  pub overlapping_canonical : {P : Type 0} {l : RangePlaces P X} {at cut : K → P} → HasPlaces k l at cut → (q : X) (given : List (X × ⊤)) → given ≡ overlapped k ps q → IsCanonical k (unit_eq k) ps → IsCanonicalSet k (ranges given)
  overlapping_canonical placed q given found h = subst (IsCanonicalSet k) (sym (ap ranges found ∙ ranges_met k ps q)) (canonical_met placed (ranges ps) q (canonical_ranges k ps h))

  length_ranges : (qs : List (X × ⊤)) → length (ranges qs) ≡ length qs
  length_ranges [] = refl
  length_ranges (q ∷ qs) = ap (λ n. suc n) (length_ranges qs)

  pub overlaps : (q : X) (result : Bool) → result ≡ nat_lt 0 (length (overlapped k ps q)) → result ≡ nat_lt 0 (length (met k list q))
  overlaps q result found = found ∙ ap (λ n. nat_lt 0 n) (sym (length_ranges (overlapped k ps q)) ∙ ap length (ranges_met k ps q ∙ ap (λ rs. met k rs q) is))

  pub got : (x : K) (o : Option (X × ⊤)) → o ≡ covering k ps x → option_map (λ p. p.0) o ≡ range_at k list x
  got x o found = ap (option_map (λ (p : X × ⊤). p.0)) found ∙ covering_range k ps x ∙ ap (λ rs. range_at k rs x) is

  pub contained : (x : K) (result : Bool) → result ≡ is_some (covering k ps x) → result ≡ covers k list x
  contained x result found = found ∙ covering_covers k ps x ∙ ap (λ rs. covers k rs x) is

  pub inserted : (new : List (X × ⊤)) (r : X) → IsCanonOf k (unit_eq k) (override k (value_at k ps) r tt) new → Adds k list (r ∷ []) (ranges new)
  inserted new r h = subst (λ rs. Adds k rs (r ∷ []) (ranges new)) is (added k ps new r h)

  pub removed : (new : List (X × ⊤)) (r : X) → IsCanonOf k (unit_eq k) (erase k (value_at k ps) r) new → TakesOut k list r (ranges new)
  removed new r h = subst (λ rs. TakesOut k rs r (ranges new)) is (taken_out k ps new r h)

  no_pairs : (qs : List (X × ⊤)) → ranges qs ≡ [] → qs ≡ []
  no_pairs [] h = refl
  no_pairs (q ∷ qs) h = absurd (let no = h in cc)

  pub meets_none : (q : X) → met k list q ≡ [] → overlapped k ps q ≡ []
  meets_none q h = no_pairs (overlapped k ps q) (ranges_met k ps q ∙ ap (λ rs. met k rs q) is ∙ h)

  pub same : (qs : List (X × ⊤)) (other : List X) → ranges qs ≡ other → same_pairs k (unit_eq k) ps qs ≡ same_ranges k list other
  same qs other it = units_same k ps qs ∙ ap (λ rs. same_ranges k rs (ranges qs)) is ∙ ap (same_ranges k list) it

  pub compared : (qs : List (X × ⊤)) (other : List X) → ranges qs ≡ other → pairs_cmp k (λ _ _. Equal) ps qs ≡ ranges_cmp k list other
  compared qs other it = units_cmp k ps qs ∙ ap (λ rs. ranges_cmp k rs (ranges qs)) is ∙ ap (ranges_cmp k list) it

  pub fed : (key_fed : K → HashWrites) → pairs_fed k key_fed (λ _. []) ps ≡ ranges_fed k key_fed list
  fed key_fed = units_fed k key_fed ps ∙ ap (ranges_fed k key_fed) is

  pub copied : (new : List (X × ⊤)) → IsCanonOf k (unit_eq k) (value_at k ps) new → IsCanonOfPoints k (covers k list) (ranges new)
  copied new h = points_of k (value_at k ps) (covers k list) new (λ x key. value_covers k ps x ∙ ap (λ rs. covers k rs x) is) h

  pub canonical : IsCanonical k (unit_eq k) ps → IsCanonicalSet k list
  canonical h = subst (IsCanonicalSet k) is (canonical_ranges k ps h)

  -- the map's pairs are the set's ranges, with the value that says nothing
  pub pairs_are : ps ≡ with_unit k list
  pairs_are = sym (with_ranges k ps) ∙ ap (with_unit k) is

  -- what a place has
  at_place : (qs : List (X × ⊤)) (n : ℕ) → option_map (λ (p : X × ⊤). p.0) (slice_get qs n) ≡ slice_get (ranges qs) n
  at_place [] n = refl
  at_place (q ∷ qs) zero = refl
  at_place (q ∷ qs) (suc n) = at_place qs n

  pub shown : (n : ℕ) (o : Option (X × ⊤)) → o ≡ slice_get ps n → option_map (λ (p : X × ⊤). p.0) o ≡ slice_get list n
  shown n o found = ap (option_map (λ (p : X × ⊤). p.0)) found ∙ at_place ps n ∙ ap (λ rs. slice_get rs n) is

  pub shown_last : (o : Option (X × ⊤)) → o ≡ slice_get ps (length ps - 1) → option_map (λ (p : X × ⊤). p.0) o ≡ slice_get list (length list - 1)
  shown_last o found = shown (length ps - 1) o found ∙ ap (λ n. slice_get list (n - 1)) (sym (length_ranges ps) ∙ ap length is)

  -- gaps that are put behind others
  pub gaps_with_unit : (q : X) (old new : List X) → AppendsGaps k (ranges ps) q old new → AppendsGaps k (ranges (with_unit k list)) q old new
  gaps_with_unit q old new = subst (λ qs. AppendsGaps k (ranges qs) q old new) pairs_are

  -- what was found at a place is not empty
  pub found_non_empty : IsCanonical k (unit_eq k) ps → (at : ℕ) (pair : X × ⊤) → Some pair ≡ slice_get ps at → k.IsNonEmpty pair.0
  found_non_empty can at pair h = non_empty_at k (unit_eq k) ps ps can refl at pair h

-- a pair was found where one is shown
pub found_shown : {X V : Type 0} (found : Option (Bor X × Bor V)) (shown : Option (X × V)) → option_map (λ pair. (pair.0.now, pair.1.now)) found ≡ shown → is_some found ≡ is_some shown
found_shown None shown h = ap is_some h
found_shown (Some pair) shown h = ap is_some h
