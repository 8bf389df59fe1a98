-- A map with the value that says nothing is a set: from lists of pairs to lists of ranges, and back.
use Rattle.std.proofs.Common.{◌≡◌, Bool, true, false, not, ◌&&◌, ◌||◌, cond, List, [], ◌∷◌, ◌++◌, Option, Some, None, option_map, is_some, refl, sym, ap, subst, ◌∙◌, true≢false}
use Rattle.std.specs.Bool.{⊤}
use Rattle.std.specs.Option.{option_eq}
use Rattle.rangemap_core.specs.Ranges.{RangeKind, IsCanonical, IsCanonOf, IsCanonOfPoints, IsNewest, covering, covers, erase, overlapped, override, unit_eq, value_at, with_unit}
use Rattle.rangemap_core.specs.Sets.{Adds, IsCanonicalSet, TakesOut, met, range_at, ranges}
use Rattle.rangemap_core.proofs.GapLemmas.{covers-cons}

module _ {K X : Type 0} (k : RangeKind K X) where
  -- pairs are their ranges, with the value that says nothing
  pub with_ranges : (ps : List (X × ⊤)) → with_unit k (ranges ps) ≡ ps
  with_ranges [] = refl
  with_ranges (p ∷ ps) = ap (λ qs. p ∷ qs) (with_ranges ps)

  pub ranges_with : (rs : List X) → ranges (with_unit k rs) ≡ rs
  ranges_with [] = refl
  ranges_with (r ∷ rs) = ap (λ ss. r ∷ ss) (ranges_with rs)

  -- what covers a key
  pub covering_range : (ps : List (X × ⊤)) (x : K) → option_map (λ p. p.0) (covering k ps x) ≡ range_at k (ranges ps) x
  covering_range [] x = refl
  covering_range (p ∷ ps) x = by (covering_range ps x) (k.holds p.0 x)
    where
      by : option_map (λ (q : X × ⊤). q.0) (covering k ps x) ≡ range_at k (ranges ps) x → (b : Bool) → option_map (λ (q : X × ⊤). q.0) (cond b (Some p) (covering k ps x)) ≡ cond b (Some p.0) (range_at k (ranges ps) x)
      by rest true = refl
      by rest false = rest

  -- of values of any type
  pub value_covers : {V : Type 0} (ps : List (X × V)) (x : K) → is_some (value_at k ps x) ≡ covers k (ranges ps) x
  value_covers [] x = refl
  value_covers {V} (p ∷ ps) x = by (value_covers ps x) (k.holds p.0 x)
    where
      by : is_some (value_at k ps x) ≡ covers k (ranges ps) x → (b : Bool) → is_some (option_map (λ (q : X × V). q.1) (cond b (Some p) (covering k ps x))) ≡ is_some (cond b (Some p.0) (range_at k (ranges ps) x))
      by rest true = refl
      by rest false = rest

  pub covering_covers : {V : Type 0} (ps : List (X × V)) (x : K) → is_some (covering k ps x) ≡ covers k (ranges ps) x
  covering_covers [] x = refl
  covering_covers (p ∷ ps) x = by (covering_covers ps x) (k.holds p.0 x)
    where
      by : is_some (covering k ps x) ≡ covers k (ranges ps) x → (b : Bool) → is_some (cond b (Some p) (covering k ps x)) ≡ is_some (cond b (Some p.0) (range_at k (ranges ps) x))
      by rest true = refl
      by rest false = rest

  pub ranges_met : (ps : List (X × ⊤)) (q : X) → ranges (overlapped k ps q) ≡ met k (ranges ps) q
  ranges_met [] q = refl
  ranges_met (p ∷ ps) q = by (ranges_met ps q) (k.meets q p.0)
    where
      by : ranges (overlapped k ps q) ≡ met k (ranges ps) q → (b : Bool) → ranges (cond b (p ∷ overlapped k ps q) (overlapped k ps q)) ≡ cond b (p.0 ∷ met k (ranges ps) q) (met k (ranges ps) q)
      by rest true = ap (λ rs. p.0 ∷ rs) rest
      by rest false = rest

  pub canonical_ranges : (ps : List (X × ⊤)) → IsCanonical k (unit_eq k) ps → IsCanonicalSet k (ranges ps)
  canonical_ranges ps h = subst (IsCanonical k (unit_eq k)) (sym (with_ranges ps)) h

  -- ---- canonical lists of functions, and of points

  same_some : (o u : Option ⊤) → option_eq (unit_eq k) o u ≡ true → is_some o ≡ is_some u
  same_some None None h = refl
  same_some None (Some v) h = absurd (true≢false (sym h))
  same_some (Some v) None h = absurd (true≢false (sym h))
  same_some (Some v) (Some w) h = refl

  same_option : (o u : Option ⊤) → is_some o ≡ is_some u → option_eq (unit_eq k) o u ≡ true
  same_option None None h = refl
  same_option None (Some v) h = absurd (true≢false (sym h))
  same_option (Some v) None h = absurd (true≢false h)
  same_option (Some v) (Some w) h = refl

  -- any value that says nothing is the newest one
  pub newest_unit : (r : X) (v : ⊤) (f : K → Option ⊤) (ps : List (X × ⊤)) → IsCanonOf k (unit_eq k) (override k f r v) ps → IsNewest k r v ps
  newest_unit r v f ps h x key held = by (value_at k ps x) (k.holds r x) held (h.represents x key)
    where
      by : (o : Option ⊤) (b : Bool) → b ≡ true → option_eq (unit_eq k) o (cond b (Some v) (f x)) ≡ true → o ≡ Some v
      by o false held same = absurd (true≢false (sym held))
      by None true held same = absurd (true≢false (sym same))
      by (Some w) true held same = refl

  pub points_of : (f : K → Option ⊤) (test : K → Bool) (ps : List (X × ⊤)) → ((x : K) → k.is_key x → is_some (f x) ≡ test x) → IsCanonOf k (unit_eq k) f ps → IsCanonOfPoints k test (ranges ps)
  points_of f test ps same h = record {
    canonical = canonical_ranges ps h.canonical;
    points = λ x key. sym (value_covers ps x) ∙ same_some (value_at k ps x) (f x) (h.represents x key) ∙ same x key;
  }

  pub canon_of : (f : K → Option ⊤) (test : K → Bool) (rs : List X) → ((x : K) → k.is_key x → is_some (f x) ≡ test x) → IsCanonOfPoints k test rs → IsCanonOf k (unit_eq k) f (with_unit k rs)
  canon_of f test rs same h = record {
    canonical = h.canonical;
    represents = λ x key. same_option (value_at k (with_unit k rs) x) (f x)
        (value_covers (with_unit k rs) x ∙ ap (λ ss. covers k ss x) (ranges_with rs) ∙ h.points x key ∙ sym (same x key));
  }

  -- what an insert adds, and what a remove takes out
  pub overridden : (f : K → Option ⊤) (r : X) (x : K) → is_some (override k f r tt x) ≡ (k.holds r x || is_some (f x))
  overridden f r x = by (k.holds r x)
    where
      by : (b : Bool) → is_some (cond b (Some tt) (f x)) ≡ (b || is_some (f x))
      by true = refl
      by false = refl

  pub erased : (f : K → Option ⊤) (r : X) (x : K) → is_some (erase k f r x) ≡ (not (k.holds r x) && is_some (f x))
  erased f r x = by (k.holds r x)
    where
      by : (b : Bool) → is_some (cond b None (f x)) ≡ (not b && is_some (f x))
      by true = refl
      by false = refl

  pub covers_one : (r : X) (x : K) → covers k (r ∷ []) x ≡ k.holds r x
  covers_one r x = by (k.holds r x)
    where
      by : (b : Bool) → is_some (cond b (Some r) None) ≡ b
      by true = refl
      by false = refl

  pub added : (ps new : List (X × ⊤)) (r : X) → IsCanonOf k (unit_eq k) (override k (value_at k ps) r tt) new → Adds k (ranges ps) (r ∷ []) (ranges new)
  added ps new r h = points_of (override k (value_at k ps) r tt) _ new
      (λ x key. overridden (value_at k ps) r x ∙ ap (λ b. k.holds r x || b) (value_covers ps x) ∙ ap (λ b. b || covers k (ranges ps) x) (sym (covers_one r x))) h

  pub taken_out : (ps new : List (X × ⊤)) (r : X) → IsCanonOf k (unit_eq k) (erase k (value_at k ps) r) new → TakesOut k (ranges ps) r (ranges new)
  taken_out ps new r h = points_of (erase k (value_at k ps) r) _ new
      (λ x key. erased (value_at k ps) r x ∙ ap (λ b. not (k.holds r x) && b) (value_covers ps x)) h

  -- ---- several inserts

  or_swap : (a b c : Bool) → (a || (b || c)) ≡ (b || (a || c))
  or_swap true true c = refl
  or_swap true false c = refl
  or_swap false b c = refl

  pub adds_none : (old : List X) → IsCanonicalSet k old → Adds k old [] old
  adds_none old can = record { canonical = can; points = λ x key. refl }

  covers_last : (rs : List X) (r : X) (x : K) → covers k (rs ++ r ∷ []) x ≡ (k.holds r x || covers k rs x)
  covers_last [] r x = covers-cons k r [] x
  covers_last (s ∷ rs) r x = covers-cons k s (rs ++ r ∷ []) x ∙ ap (λ b. k.holds s x || b) (covers_last rs r x) ∙ or_swap (k.holds s x) (k.holds r x) (covers k rs x) ∙ ap (λ b. k.holds r x || b) (sym (covers-cons k s rs x))

  or_group : (a b c : Bool) → (a || (b || c)) ≡ ((a || b) || c)
  or_group true b c = refl
  or_group false b c = refl

  -- one insert more
  pub adds_last : (old mid new rs : List X) (r : X) → Adds k old rs mid → Adds k mid (r ∷ []) new → Adds k old (rs ++ r ∷ []) new
  adds_last old mid new rs r h g = record {
    canonical = g.canonical;
    points = λ x key.
        g.points x key ∙ ap (λ b. b || covers k mid x) (covers_one r x) ∙ ap (λ b. k.holds r x || b) (h.points x key)
        ∙ or_group (k.holds r x) (covers k rs x) (covers k old x) ∙ ap (λ b. b || covers k old x) (sym (covers_last rs r x));
  }
