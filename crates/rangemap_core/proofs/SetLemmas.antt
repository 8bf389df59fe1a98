-- What a set does, as a map with the value that says nothing.
use Rattle.std.proofs.Common.{◌≡◌, Bool, true, false, not, cond, ◌&&◌, ◌||◌, List, [], ◌∷◌, Option, Some, option_map, length, is_some, refl, sym, ap, ◌∙◌}
use Rattle.std.proofs.Math.Bool.{or-false}
use Rattle.std.proofs.lemmas.List.{length-map}
use Rattle.std.specs.Bool.{⊤}
use Rattle.rangemap_core.specs.Ranges.{RangeKind, IsCanonOf, IsCanonOfPoints, covering, covers, erase, nothing, overlapped, override, override_all, Overrides, unit_eq, value_at, with_unit}
use Rattle.rangemap_core.specs.Operators.{common, either, one_only, without}
use Rattle.rangemap_core.proofs.OperatorLemmas.{common_some, either_some, one_only_some, without_some}
use Rattle.rangemap_core.specs.Sets.{Adds, AreCommon, AreEither, AreOneOnly, AreWithout, TakesOut, met, range_at, ranges}
use Rattle.rangemap_core.proofs.UnitValueLemmas.{canon_of, covers_one, erased, overridden, ranges_met, ranges_with, value_covers}

module _ {K X : Type 0} (k : RangeKind K X) where
  -- the key is in the set, said of the map that the set is
  pub valued_where_covered : (rs : List X) (x : K) → is_some (value_at k (with_unit k rs) x) ≡ covers k rs x
  valued_where_covered rs x = value_covers k (with_unit k rs) x ∙ ap (λ ss. covers k ss x) (ranges_with k rs)

  pub inserted : (old new : List X) (r : X) (v : ⊤) → Adds k old (r ∷ []) new → IsCanonOf k (unit_eq k) (override k (value_at k (with_unit k old)) r v) (with_unit k new)
  inserted old new r v h = canon_of k (override k (value_at k (with_unit k old)) r v) _ new
      (λ x key. overridden k (value_at k (with_unit k old)) r x ∙ ap (λ b. k.holds r x || b) (valued_where_covered old x) ∙ ap (λ b. b || covers k old x) (sym (covers_one k r x))) h

  pub removed : (old new : List X) (r : X) → TakesOut k old r new → IsCanonOf k (unit_eq k) (erase k (value_at k (with_unit k old)) r) (with_unit k new)
  removed old new r h = canon_of k (erase k (value_at k (with_unit k old)) r) _ new
      (λ x key. erased k (value_at k (with_unit k old)) r x ∙ ap (λ b. not (k.holds r x) && b) (valued_where_covered old x)) h

  pub met_none : (old : List X) (r : X) → overlapped k (with_unit k old) r ≡ [] → met k old r ≡ []
  met_none old r h = sym (ap (λ rs. met k rs r) (ranges_with k old)) ∙ sym (ranges_met k (with_unit k old) r) ∙ ap ranges h

  pub copied : (old new : List X) → IsCanonOfPoints k (covers k old) new → IsCanonOf k (unit_eq k) (value_at k (with_unit k old)) (with_unit k new)
  copied old new h = canon_of k (value_at k (with_unit k old)) (covers k old) new (λ x key. valued_where_covered old x) h

  pub united : (ps qs rs : List X) → AreEither k ps qs rs → IsCanonOf k (unit_eq k) (either (value_at k (with_unit k ps)) (value_at k (with_unit k qs))) (with_unit k rs)
  united ps qs rs h = canon_of k (either (value_at k (with_unit k ps)) (value_at k (with_unit k qs))) _ rs
      (λ x key. either_some (value_at k (with_unit k ps) x) (value_at k (with_unit k qs) x) ∙ ap (λ b. b || is_some (value_at k (with_unit k qs) x)) (valued_where_covered ps x) ∙ ap (λ b. covers k ps x || b) (valued_where_covered qs x)) h

  pub intersected : (ps qs rs : List X) → AreCommon k ps qs rs → IsCanonOf k (unit_eq k) (common (value_at k (with_unit k ps)) (value_at k (with_unit k qs))) (with_unit k rs)
  intersected ps qs rs h = canon_of k (common (value_at k (with_unit k ps)) (value_at k (with_unit k qs))) _ rs
      (λ x key. common_some (value_at k (with_unit k ps) x) (value_at k (with_unit k qs) x) ∙ ap (λ b. b && is_some (value_at k (with_unit k qs) x)) (valued_where_covered ps x) ∙ ap (λ b. covers k ps x && b) (valued_where_covered qs x)) h

  pub subtracted : (ps qs rs : List X) → AreWithout k ps qs rs → IsCanonOf k (unit_eq k) (without (value_at k (with_unit k ps)) (value_at k (with_unit k qs))) (with_unit k rs)
  subtracted ps qs rs h = canon_of k (without (value_at k (with_unit k ps)) (value_at k (with_unit k qs))) _ rs
      (λ x key. without_some (value_at k (with_unit k ps) x) (value_at k (with_unit k qs) x) ∙ ap (λ b. b && not (is_some (value_at k (with_unit k qs) x))) (valued_where_covered ps x) ∙ ap (λ b. covers k ps x && not b) (valued_where_covered qs x)) h

  pub exchanged : (ps qs rs : List X) → AreOneOnly k ps qs rs → IsCanonOf k (unit_eq k) (one_only (value_at k (with_unit k ps)) (value_at k (with_unit k qs))) (with_unit k rs)
  exchanged ps qs rs h = canon_of k (one_only (value_at k (with_unit k ps)) (value_at k (with_unit k qs))) _ rs
      (λ x key. one_only_some (value_at k (with_unit k ps) x) (value_at k (with_unit k qs) x)
      ∙ ap (λ b. (b && not (is_some (value_at k (with_unit k qs) x))) || (is_some (value_at k (with_unit k qs) x) && not b)) (valued_where_covered ps x)
      ∙ ap (λ b. (covers k ps x && not b) || (b && not (covers k ps x))) (valued_where_covered qs x)) h

  -- ---- several ranges, one after another

  or_true : (a : Bool) → (a || true) ≡ true
  or_true true = refl
  or_true false = refl

  all_points : (f : K → Option ⊤) (rs : List X) (x : K) → is_some (override_all k f (with_unit k rs) x) ≡ (covers k rs x || is_some (f x))
  all_points f [] x = refl
  all_points f (r ∷ rs) x = all_points (override k f r tt) rs x ∙ ap (λ b. covers k rs x || b) (overridden k f r x) ∙ by (k.holds r x)
    where
      by : (b : Bool) → (covers k rs x || (b || is_some (f x))) ≡ (is_some (cond b (Some r) (range_at k rs x)) || is_some (f x))
      by true = or_true (covers k rs x)
      by false = refl

  pub all_inserted : (old rs new : List X) → Adds k old rs new → Overrides k (unit_eq k) (with_unit k old) (with_unit k rs) (with_unit k new)
  all_inserted old rs new h = canon_of k (override_all k (value_at k (with_unit k old)) (with_unit k rs)) _ new
      (λ x key. all_points (value_at k (with_unit k old)) rs x ∙ ap (λ b. covers k rs x || b) (valued_where_covered old x)) h

  pub all_made : (rs new : List X) → IsCanonOfPoints k (covers k rs) new → IsCanonOf k (unit_eq k) (override_all k nothing (with_unit k rs)) (with_unit k new)
  all_made rs new h = canon_of k (override_all k nothing (with_unit k rs)) _ new (λ x key. all_points nothing rs x ∙ or-false (covers k rs x)) h

  -- ---- what a question finds

  covering_with : (rs : List X) (x : K) → covering k (with_unit k rs) x ≡ option_map (λ r. (r, tt)) (range_at k rs x)
  covering_with [] x = refl
  covering_with (r ∷ rs) x = by (covering_with rs x) (k.holds r x)
    where
      by : covering k (with_unit k rs) x ≡ option_map (λ s. (s, tt)) (range_at k rs x) → (b : Bool) → cond b (Some (r, tt)) (covering k (with_unit k rs) x) ≡ option_map (λ s. (s, tt)) (cond b (Some r) (range_at k rs x))
      by rest true = refl
      by rest false = rest

  pub pair_found : (rs : List X) (x : K) (o : Option X) → o ≡ range_at k rs x → option_map (λ r. (r, tt)) o ≡ covering k (with_unit k rs) x
  pair_found rs x o h = ap (option_map (λ r. (r, tt))) h ∙ sym (covering_with rs x)

  pub count_with : (rs : List X) → length (with_unit k rs) ≡ length rs
  count_with rs = length-map rs (λ r. (r, tt))

  pub met_count : (rs : List X) (q : X) → length (overlapped k (with_unit k rs) q) ≡ length (met k rs q)
  met_count rs q = sym (length-map (overlapped k (with_unit k rs) q) (λ p. p.0)) ∙ ap length (ranges_met k (with_unit k rs) q ∙ ap (λ ss. met k ss q) (ranges_with k rs))
