-- What the last pair that starts before a key, or no later, tells of other keys, in a spaced list.
use Rattle.std.proofs.Common.{◌≡◌, List, [], ◌∷◌, ◌++◌, Bool, true, false, not, ◌&&◌, Option, Some, None, filter, refl, sym, ap, ◌∙◌, subst, true≢false, Ordering, Less, is_lt, is_le, is_gt}
use Rattle.std.specs.Cmp.{IsTotalOrder, IsEquivalence}
use Rattle.std.specs.BTreeMap.Range.{range_contains, is_from_start}
use Rattle.std.specs.Map.Iter.{TakesLast}
use Rattle.std.specs.declared.ops.Bound.{Bound}
use Rattle.std.specs.declared.ops.Bound.TheVariants.{Excluded, Included}
use Rattle.std.specs.declared.ops.Range.{Range}
use Rattle.rangemap_core.specs.engine.PlacedKinds.{place_total}
use Rattle.rangemap_core.specs.engine.Shape.{Shape, IsApart, IsSpaced, given, optional}
use Rattle.rangemap_core.specs.engine.Stretch.{Every}
use Rattle.rangemap_core.proofs.ListLemmas.{Every-map, Every-append, IsApart-from_lt}
use Rattle.rangemap_core.proofs.PlaceOrderLemmas.{lt_le, lt_le_trans}
use Rattle.rangemap_tree.specs.Starts.{before, behind_end, from, near_end, past}
use Rattle.rangemap_tree.specs.Sides.{shape}
use Rattle.rangemap_tree.proofs.FilterLemmas.{filter_no, filter_same}
use Rattle.rangemap_tree.proofs.SplitLemmas.{all_from, below_test, grouped, le_of, not_lt_of_le, parts_at, split, split_past, starts_below}

not_below : (b c : Bool) → c ≡ true → (b && not c) ≡ false
not_below true true h = refl
not_below false true h = refl
not_below b false h = absurd (true≢false (sym h))

module _ {A X : Type 0} (shows : A → X) (xs : List X) (near : Option A) (taken : (rest : List X) × TakesLast shows xs near rest) where
  pub taken_none : near ≡ None → xs ≡ []
  taken_none h = (subst (λ n. TakesLast shows xs n taken.0) h taken.1).0

  pub taken_some : (a : A) → near ≡ Some a → xs ≡ taken.0 ++ shows a ∷ []
  taken_some a h = subst (λ n. TakesLast shows xs n taken.0) h taken.1

module _ {K V : Type 0} {cmp : K → K → Ordering} (o : IsTotalOrder cmp) (eq : V → V → Bool) (e : IsEquivalence eq) (ps : List (Range K × V)) (c : IsSpaced (shape cmp eq) ps) where
  abbrev S : Shape (Range K) (Option K) V
  S = shape cmp eq

  -- the pairs near the end of a range that is changed, and those behind it
  pub parts_near : (r : Range K) (value : Option V) → (near_end cmp value r.end ps ++ behind_end cmp value r.end ps ≡ ps) × Every (λ (p : Range K × V). is_gt (cmp p.0.start r.end) ≡ false) (near_end cmp value r.end ps) × Every (λ (p : Range K × V). IsApart (optional S) (r, value) (given p)) (behind_end cmp value r.end ps)
  parts_near r None =
      let s = split o eq e r.end ps c in
      (s.0, Every-map _ _ (before cmp r.end ps) (λ p k. lt_le o p.0.start r.end k) s.1, Every-map _ _ (from cmp r.end ps) (λ p k. record { before = k; differs_at_touch = λ _. refl }) s.2)
  parts_near r (Some v) =
      let s = split_past o eq e r.end ps c in
      (s.0, s.1, Every-map _ _ (past cmp r.end ps) (λ p k. IsApart-from_lt (optional S) (place_total o) (r, Some v) (given p) k) s.2)

  module _ (front back : List (Range K × V)) (whole : front ++ back ≡ ps) where
    -- where there is none in front, none starts before a key that the others start from
    pub none_before : (x : K) → Every (λ (p : Range K × V). is_gt (cmp x p.0.start) ≡ false) back → front ≡ [] → before cmp x ps ≡ []
    none_before x later h = ap (before cmp x) (sym whole ∙ ap (λ qs. qs ++ back) h) ∙ (all_from o x back later).0

    -- where those in front do not start from the lower bound on, and the others from the upper one on, none starts within
    pub none_within : (lo : Bound K) (z : K) → Every (λ (p : Range K × V). is_from_start cmp lo p.0.start ≡ false) front → Every (λ (p : Range K × V). is_gt (cmp z p.0.start) ≡ false) back → filter (λ (p : Range K × V). range_contains cmp lo (Excluded z) p.0.start) ps ≡ []
    none_within lo z h later =
        let within : Range K × V → Bool = λ p. range_contains cmp lo (Excluded z) p.0.start in
        ap (filter within) (sym whole)
        ∙ filter_same within (λ _. false) (front ++ back)
        (Every-append _ front back (Every-map _ _ front (λ p k. ap (λ t. t && not (is_le (cmp z p.0.start))) k) h) (Every-map _ _ back (λ p k. not_below (is_from_start cmp lo p.0.start) (is_le (cmp z p.0.start)) (le_of (cmp z p.0.start) k)) later))
        ∙ filter_no (front ++ back)

    module _ (us : List (Range K × V)) (b : Range K × V) (is : front ≡ us ++ b ∷ []) where
      pub whole_at : ps ≡ us ++ b ∷ back
      whole_at = sym whole ∙ ap (λ xs. xs ++ back) is ∙ grouped us b back

      below : Every (λ (u : Range K × V). cmp u.0.start b.0.start ≡ Less) us
      below = starts_below o eq e us b back (subst (IsSpaced S) whole_at c)

      -- where the last in front starts before a key, all do
      pub all_start : (x : K) → cmp b.0.start x ≡ Less → Every (λ (p : Range K × V). cmp p.0.start x ≡ Less) front
      all_start x h = subst (Every (λ (p : Range K × V). cmp p.0.start x ≡ Less)) (sym is) (Every-append _ us (b ∷ []) (Every-map _ _ us (λ u k. o.trans u.0.start b.0.start x k h) below) (h, tt))

      -- the two parts at a key behind its start, that the others start from
      pub parts_behind : (x : K) → cmp b.0.start x ≡ Less → Every (λ (p : Range K × V). is_gt (cmp x p.0.start) ≡ false) back → (before cmp x ps ≡ front) × (from cmp x ps ≡ back)
      parts_behind x h later = let both = parts_at o x front back (all_start x h) later in (ap (before cmp x) (sym whole) ∙ both.0, ap (from cmp x) (sym whole) ∙ both.1)

      -- where it starts no later than x, none starts after x and before z
      pub none_after : (x z : K) → Every (λ (p : Range K × V). is_gt (cmp z p.0.start) ≡ false) back → is_gt (cmp b.0.start x) ≡ false → filter (λ (p : Range K × V). range_contains cmp (Excluded x) (Excluded z) p.0.start) ps ≡ []
      none_after x z later h = none_within (Excluded x) z (subst (Every (λ (p : Range K × V). is_lt (cmp x p.0.start) ≡ false)) (sym is) (Every-append _ us (b ∷ []) (Every-map _ _ us (λ u k. no_later u (lt_le o u.0.start x (lt_le_trans o u.0.start b.0.start x k h))) below) (no_later b h, tt))) later
        where
          no_later : (p : Range K × V) → is_gt (cmp p.0.start x) ≡ false → is_lt (cmp x p.0.start) ≡ false
          no_later p k = ap is_lt (o.antisymm x p.0.start) ∙ not_lt_of_le (cmp p.0.start x) k

      -- where it starts before x, none starts from x on and before z
      pub none_from : (x z : K) → Every (λ (p : Range K × V). is_gt (cmp z p.0.start) ≡ false) back → cmp b.0.start x ≡ Less → filter (λ (p : Range K × V). range_contains cmp (Included x) (Excluded z) p.0.start) ps ≡ []
      none_from x z later h = none_within (Included x) z (Every-map _ _ front (λ p k. below_test o x p k) (all_start x h)) later

  -- what the last near the end tells of the last before the start
  module _ (r : Range K) (value : Option V) (full : cmp r.start r.end ≡ Less) where
    abbrev front : List (Range K × V)
    front = near_end cmp value r.end ps

    abbrev back : List (Range K × V)
    back = behind_end cmp value r.end ps

    from_start : Every (λ (p : Range K × V). is_gt (cmp r.start p.0.start) ≡ false) back
    from_start = Every-map _ _ back (λ p k. lt_le o r.start p.0.start (lt_le_trans o r.start r.end p.0.start full k.before)) (parts_near r value).2

    pub last_before_none : front ≡ [] → before cmp r.start ps ≡ []
    last_before_none h = none_before front back (parts_near r value).0 r.start from_start h

    pub last_before_start : (us : List (Range K × V)) (b : Range K × V) → front ≡ us ++ b ∷ [] → cmp b.0.start r.start ≡ Less → before cmp r.start ps ≡ us ++ b ∷ []
    last_before_start us b is h = (parts_behind front back (parts_near r value).0 us b is r.start h from_start).0 ∙ is
