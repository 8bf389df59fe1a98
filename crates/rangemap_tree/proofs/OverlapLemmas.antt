-- Which pairs of a spaced list of half-open ranges a query overlaps, by the starts of these.
use Rattle.std.proofs.Common.{◌≡◌, List, [], ◌∷◌, ◌++◌, Bool, true, false, not, ◌&&◌, filter, refl, sym, ap, ◌∙◌, subst, true≢false, Ordering, Less, Equal, Greater, is_lt, is_le, is_gt}
use Rattle.std.specs.Cmp.{IsTotalOrder, IsEquivalence, tied_itself}
use Rattle.std.specs.Ordering.{ordering_reverse}
use Rattle.std.specs.BTreeMap.Range.{range_contains, is_from_start}
use Rattle.std.specs.declared.ops.Bound.{Bound}
use Rattle.std.specs.declared.ops.Bound.TheVariants.{Included, Excluded}
use Rattle.std.specs.declared.ops.Range.{Range}
use Rattle.rangemap_core.specs.Ranges.{half_open, overlapped}
use Rattle.rangemap_core.specs.engine.PlacedKinds.{place_total}
use Rattle.rangemap_core.specs.engine.Shape.{IsApart, IsSpaced}
use Rattle.rangemap_core.specs.engine.Stretch.{Every}
use Rattle.rangemap_core.proofs.ListLemmas.{Every-map, Every-append, Every-right, IsSpaced-left, IsSpaced-right}
use Rattle.rangemap_core.proofs.InsertPartLemmas.{before_first}
use Rattle.rangemap_core.proofs.PlaceOrderLemmas.{le_trans, lt_le_trans, le_lt_trans, not_lt_ge}
use Rattle.rangemap_tree.specs.Starts.{past, up_to}
use Rattle.rangemap_tree.specs.Sides.{shape}
use Rattle.rangemap_tree.proofs.FilterLemmas.{filter_same}
use Rattle.rangemap_tree.proofs.SplitLemmas.{all_full, grouped, gt_not_le, less_if_above, not_lt_of_le, split_past}

no_and : (a b : Bool) → (b ≡ false → a ≡ false) → (a && not b) ≡ false
no_and true true h = refl
no_and true false h = absurd (true≢false (h refl))
no_and false b h = refl

not_le_is_lt : (r : Ordering) → not (is_le (ordering_reverse r)) ≡ is_lt r
not_le_is_lt Less = refl
not_le_is_lt Equal = refl
not_le_is_lt Greater = refl

module _ {K : Type 0} {cmp : K → K → Ordering} (o : IsTotalOrder cmp) where
  not_le : (t x : K) → not (is_le (cmp t x)) ≡ is_lt (cmp x t)
  not_le t x = ap (λ r. not (is_le r)) (o.antisymm t x) ∙ not_le_is_lt (cmp x t)

  not_lt : (x y : K) → is_gt (cmp x y) ≡ false → is_lt (cmp y x) ≡ false
  not_lt x y h = ap is_lt (o.antisymm y x) ∙ not_lt_of_le (cmp x y) h

  -- bounds that leave no room: nothing is from x on and before t where x is not below t
  pub no_room : (lo : Bound K) (x t : K) → ((y : K) → is_from_start cmp lo y ≡ true → is_gt (cmp x y) ≡ false) → is_lt (cmp x t) ≡ false → (y : K) → range_contains cmp (Included t) (Excluded t) y ≡ range_contains cmp lo (Excluded t) y
  no_room lo x t above h y = no_and (is_le (cmp t y)) (is_le (cmp t y)) (λ q. q) ∙ sym (no_and (is_from_start cmp lo y) (is_le (cmp t y)) (λ q. below y (is_from_start cmp lo y) refl q))
    where
      below : (y : K) (b : Bool) → is_from_start cmp lo y ≡ b → is_le (cmp t y) ≡ false → is_from_start cmp lo y ≡ false
      below y false e q = e
      below y true e q =
          let y_t : cmp y t ≡ Less = less_if_above o t y q in
          let t_x : is_gt (cmp t x) ≡ false = not_lt_ge o x t h in
          let y_x : cmp y x ≡ Less = lt_le_trans o y t x y_t t_x in
          absurd (true≢false (sym (ap is_gt (o.antisymm x y ∙ ap ordering_reverse y_x)) ∙ above y e))

module _ {K V : Type 0} {cmp : K → K → Ordering} (o : IsTotalOrder cmp) (eq : V → V → Bool) (e : IsEquivalence eq) (ps : List (Range K × V)) (c : IsSpaced (shape cmp eq) ps) (q : Range K) where
  parts : (up_to cmp q.start ps ++ past cmp q.start ps ≡ ps) × Every (λ (p : Range K × V). is_gt (cmp p.0.start q.start) ≡ false) (up_to cmp q.start ps) × Every (λ (p : Range K × V). cmp q.start p.0.start ≡ Less) (past cmp q.start ps)
  parts = split_past o eq e q.start ps c

  abbrev Tested : Bound K → Range K × V → Type 0
  Tested lo p = range_contains cmp lo (Excluded q.end) p.0.start ≡ (is_lt (cmp q.start p.0.end) && is_lt (cmp p.0.start q.end))

  -- the two tests of a pair, from what the start's tests say
  tested : (lo : Bound K) (p : Range K × V) (b : Bool) → is_from_start cmp lo p.0.start ≡ b → is_lt (cmp q.start p.0.end) ≡ b → Tested lo p
  tested lo p b f h = λ i. (f ∙ sym h) i && not_le o q.end p.0.start i

  full_past : Every (λ (p : Range K × V). cmp p.0.start p.0.end ≡ Less) (past cmp q.start ps)
  full_past = all_full o eq e (past cmp q.start ps) (IsSpaced-right (shape cmp eq) (place_total o) (up_to cmp q.start ps) (past cmp q.start ps) (subst (IsSpaced (shape cmp eq)) (sym parts.0) c))

  past_tested : (lo : Bound K) → ((y : K) → cmp q.start y ≡ Less → is_from_start cmp lo y ≡ true) → Every (Tested lo) (past cmp q.start ps)
  past_tested lo f = both (past cmp q.start ps) parts.2 full_past
    where
      both : (ws : List (Range K × V)) → Every (λ (p : Range K × V). cmp q.start p.0.start ≡ Less) ws → Every (λ (p : Range K × V). cmp p.0.start p.0.end ≡ Less) ws → Every (Tested lo) ws
      both [] h k = tt
      both (w ∷ ws) h k = (tested lo w true (f w.0.start h.0) (ap is_lt (o.trans q.start w.0.start w.0.end h.0 k.0)), both ws h.1 k.1)

  whole : (lo : Bound K) → Every (Tested lo) (up_to cmp q.start ps) → Every (Tested lo) (past cmp q.start ps) → filter (λ (p : Range K × V). range_contains cmp lo (Excluded q.end) p.0.start) ps ≡ overlapped (half_open cmp) ps q
  whole lo h k = filter_same (λ (p : Range K × V). range_contains cmp lo (Excluded q.end) p.0.start) (λ (p : Range K × V). is_lt (cmp q.start p.0.end) && is_lt (cmp p.0.start q.end)) ps (subst (Every (Tested lo)) parts.0 (Every-append (Tested lo) (up_to cmp q.start ps) (past cmp q.start ps) h k))

  -- where none reaches past the start
  behind_by : Every (λ (p : Range K × V). is_gt (cmp p.0.end q.start) ≡ false) (up_to cmp q.start ps) → filter (λ (p : Range K × V). range_contains cmp (Excluded q.start) (Excluded q.end) p.0.start) ps ≡ overlapped (half_open cmp) ps q
  behind_by h = whole (Excluded q.start) (both (up_to cmp q.start ps) parts.1 h) (past_tested (Excluded q.start) (λ y k. ap is_lt k))
    where
      both : (ws : List (Range K × V)) → Every (λ (p : Range K × V). is_gt (cmp p.0.start q.start) ≡ false) ws → Every (λ (p : Range K × V). is_gt (cmp p.0.end q.start) ≡ false) ws → Every (Tested (Excluded q.start)) ws
      both [] f k = tt
      both (w ∷ ws) f k = (tested (Excluded q.start) w false (not_lt o w.0.start q.start f.0) (not_lt o w.0.end q.start k.0), both ws f.1 k.1)

  pub behind_none : up_to cmp q.start ps ≡ [] → filter (λ (p : Range K × V). range_contains cmp (Excluded q.start) (Excluded q.end) p.0.start) ps ≡ overlapped (half_open cmp) ps q
  behind_none h = behind_by (subst (Every (λ (p : Range K × V). is_gt (cmp p.0.end q.start) ≡ false)) (sym h) tt)

  module _ (us : List (Range K × V)) (a : Range K × V) (is : up_to cmp q.start ps ≡ us ++ a ∷ []) where
    there : IsSpaced (shape cmp eq) (us ++ a ∷ past cmp q.start ps)
    there = subst (IsSpaced (shape cmp eq)) (sym (sym (grouped us a (past cmp q.start ps)) ∙ ap (λ xs. xs ++ past cmp q.start ps) (sym is) ∙ parts.0)) c

    first : Every (λ (u : Range K × V). IsApart (shape cmp eq) u a) us
    first = before_first (shape cmp eq) (place_total o) e us (past cmp q.start ps) a there

    a_up : is_gt (cmp a.0.start q.start) ≡ false
    a_up = (Every-right (λ (p : Range K × V). is_gt (cmp p.0.start q.start) ≡ false) us (a ∷ []) (subst (Every (λ (p : Range K × V). is_gt (cmp p.0.start q.start) ≡ false)) is parts.1)).0

    pub behind_last : is_gt (cmp a.0.end q.start) ≡ false → filter (λ (p : Range K × V). range_contains cmp (Excluded q.start) (Excluded q.end) p.0.start) ps ≡ overlapped (half_open cmp) ps q
    behind_last h = behind_by (subst (Every (λ (p : Range K × V). is_gt (cmp p.0.end q.start) ≡ false)) (sym is)
        (Every-append _ us (a ∷ []) (Every-map _ _ us (λ u k. le_trans o u.0.end a.0.start q.start k.before a_up) first) (h, tt)))

    pub reached : cmp q.start a.0.end ≡ Less → filter (λ (p : Range K × V). range_contains cmp (Included a.0.start) (Excluded q.end) p.0.start) ps ≡ overlapped (half_open cmp) ps q
    reached h = whole (Included a.0.start)
        (subst (Every (Tested (Included a.0.start))) (sym is) (Every-append (Tested (Included a.0.start)) us (a ∷ []) (both us first (all_full o eq e us us_spaced)) (tested (Included a.0.start) a true (ap is_le (tied_itself o a.0.start)) (ap is_lt h), tt)))
        (past_tested (Included a.0.start) (λ y k. ap is_le (le_lt_trans o a.0.start q.start y a_up k)))
      where
        us_spaced : IsSpaced (shape cmp eq) us
        us_spaced = IsSpaced-left (shape cmp eq) (place_total o) us (a ∷ past cmp q.start ps) there

        both : (ws : List (Range K × V)) → Every (λ (u : Range K × V). IsApart (shape cmp eq) u a) ws → Every (λ (p : Range K × V). cmp p.0.start p.0.end ≡ Less) ws → Every (Tested (Included a.0.start)) ws
        both [] f k = tt
        both (w ∷ ws) f k = (
          tested (Included a.0.start) w false
              (ap is_le (o.antisymm a.0.start w.0.start) ∙ gt_not_le (cmp w.0.start a.0.start) (lt_le_trans o w.0.start w.0.end a.0.start k.0 f.0.before))
              (not_lt o w.0.end q.start (le_trans o w.0.end a.0.start q.start f.0.before a_up)),
          both ws f.1 k.1,
        )
