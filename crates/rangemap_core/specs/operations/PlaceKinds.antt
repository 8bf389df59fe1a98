-- Half-open and closed ranges go from place to place.
use Rattle.std.proofs.Common.{◌≡◌, ◌⊎◌, inl, inr, Bool, true, false, ◌&&◌, sym, ◌∙◌, ap, refl, true≢false, Ordering, Less, Equal, Greater, is_lt, is_le}
use Rattle.std.specs.Cmp.{IsTotalOrder, then_total, on_total, bool_cmp_total, first_so, second_so}
use Rattle.std.specs.Ordering.{ordering_then}
use Rattle.std.specs.declared.ops.Range.{Range}
use Rattle.std.specs.declared.ops.RangeInclusive.{RangeInclusive}
use Rattle.std.specs.Range.{range_inclusive_start, range_inclusive_end}
use Rattle.std.specs.Cmp.Derive.{both_true}
use Rattle.rangemap_core.specs.operations.Places.{side_cmp, half_open_places, closed_places}
use Rattle.rangemap_core.specs.laws.Orders.{Less-Equal, eq_eq, eq_turn, le_Equal, le_eq, le_lt, lt_le}
use Rattle.rangemap_core.specs.Ranges.{half_open, closed}
use Rattle.rangemap_core.specs.operations.PlaceLaws.{HasPlaces}
use Rattle.rangemap_core.specs.engine.EndpointKinds.{lt_is}

lt_le_and : (c : Ordering) (b : Bool) → (is_lt c && b) ≡ true → (is_le c && b) ≡ true
lt_le_and Less b h = h
lt_le_and Equal b h = absurd (true≢false (sym h))
lt_le_and Greater b h = h

and_lt_le : (b : Bool) (c : Ordering) → (b && is_lt c) ≡ true → (b && is_le c) ≡ true
and_lt_le true Less h = h
and_lt_le true Equal h = refl
and_lt_le true Greater h = h
and_lt_le false c h = h

then_Equal : (r : Ordering) → ordering_then r Equal ≡ r
then_Equal Less = refl
then_Equal Equal = refl
then_Equal Greater = refl

-- the place before a key, and one after a key
then_Less : (r : Ordering) → is_lt (ordering_then r Less) ≡ is_le r
then_Less Less = refl
then_Less Equal = refl
then_Less Greater = refl

then_Greater : (r : Ordering) → is_le (ordering_then r Greater) ≡ is_lt r
then_Greater Less = refl
then_Greater Equal = refl
then_Greater Greater = refl

module _ {K : Type 0} (cmp : K → K → Ordering) (o : IsTotalOrder cmp) where
  pub side_total : IsTotalOrder (side_cmp cmp)
  side_total = then_total (on_total (λ q. q.0) o) (on_total (λ q. q.1) bool_cmp_total)

  -- places on the same side of keys lie as the keys do
  same_side : (x y : K) (b : Bool) → side_cmp cmp (x, b) (y, b) ≡ cmp x y
  same_side x y true = then_Equal (cmp x y)
  same_side x y false = then_Equal (cmp x y)

  as_keys : (x y z w : K) (b : Bool) → (is_lt (side_cmp cmp (x, b) (y, b)) && is_lt (side_cmp cmp (z, b) (w, b))) ≡ (is_lt (cmp x y) && is_lt (cmp z w))
  as_keys x y z w b = ap (λ r. is_lt r && is_lt (side_cmp cmp (z, b) (w, b))) (same_side x y b) ∙ ap (λ r. is_lt (cmp x y) && is_lt r) (same_side z w b)

  -- t and u lie between r and s, which tie
  squeezed : (r s t u : K) → is_le (cmp t u) ≡ true → is_le (cmp r t) ≡ true → is_le (cmp u s) ≡ true → cmp r s ≡ Equal → cmp t u ≡ Equal
  squeezed r s t u le h g tied = by (cmp t u) refl le
    where
      by : (c : Ordering) → cmp t u ≡ c → is_le c ≡ true → c ≡ Equal
      by Less e w = absurd (Less-Equal (le_lt o h (lt_le o e g)) tied)
      by Equal e w = refl
      by Greater e w = absurd (true≢false (sym w))

  pub half_open_has_places : HasPlaces (half_open cmp) (half_open_places cmp) (λ x. (x, false)) (λ x. (x, false))
  half_open_has_places = record {
    total = side_total;
    starts = λ r s. sym (same_side r.start s.start false);
    ends = λ r s. sym (same_side r.end s.end false);
    non_empty = λ r h. same_side r.start r.end false ∙ h;
    before = λ r s h. ap is_le (same_side r.end s.start false) ∙ h;
    before_from = λ r s h. sym (ap is_le (same_side r.end s.start false)) ∙ h;
    touches_within = λ r s t u le h g tied. squeezed r.end s.start t.end u.start le
        (sym (ap is_le (same_side r.end t.end false)) ∙ h) (sym (ap is_le (same_side u.start s.start false)) ∙ g) tied;
    holds = λ r x. sym (ap (λ c. is_le c && is_lt (side_cmp cmp (x, false) (r.end, false))) (same_side r.start x false) ∙ ap (λ c. is_le (cmp r.start x) && is_lt c) (same_side x r.end false));
    cuts = λ r x. sym (as_keys r.start x x r.end false);
    held = λ item x h. by item x (cmp item.start x) refl h;
    cut_held = λ r x h. lt_le_and (cmp r.start x) (is_lt (cmp x r.end)) h;
    between_start = λ a b. refl;
    between_end = λ a b. refl;
    between_start_place = λ a b. refl;
    between_end_place = λ a b. refl;
    between_non_empty = λ a b h. sym (same_side a.start b.end false) ∙ h;
  }
    where
      by : (item : Range K) (x : K) (c : Ordering) → cmp item.start x ≡ c → (is_le c && is_lt (cmp x item.end)) ≡ true
          → (side_cmp cmp (x, false) (item.start, false) ≡ Equal)
          ⊎ (((r : Range K) → cmp r.start r.end ≡ Less → side_cmp cmp (item.end, false) (r.end, false) ≡ Equal → (half_open cmp).holds r x ≡ true)
          ⊎ ((is_lt (cmp item.start x) && is_lt (cmp x item.end)) ≡ true))
      by item x Less e h = inr (inr (both_true (ap is_lt e) h))
      by item x Equal e h = inl (same_side x item.start false ∙ eq_turn o e)
      by item x Greater e h = absurd (true≢false (sym h))

  -- where `x` is the cut of a closed range
  closed_cut : (a b x : K) → (is_lt (side_cmp cmp (a, false) (x, true)) && is_lt (side_cmp cmp (x, true) (b, true))) ≡ (is_le (cmp a x) && is_lt (cmp x b))
  closed_cut a b x = ap (λ c. c && is_lt (side_cmp cmp (x, true) (b, true))) (then_Less (cmp a x)) ∙ ap (λ c. is_le (cmp a x) && is_lt c) (same_side x b true)

  pub closed_has_places : (is_key : K → Type 0) → HasPlaces (closed is_key cmp) (closed_places cmp) (λ x. (x, false)) (λ x. (x, true))
  closed_has_places is_key = record {
    total = side_total;
    starts = λ r s. sym (same_side (range_inclusive_start r) (range_inclusive_start s) false);
    ends = λ r s. sym (same_side (range_inclusive_end r) (range_inclusive_end s) true);
    non_empty = λ r h. lt_is _ (then_Less (cmp (range_inclusive_start r) (range_inclusive_end r)) ∙ h.0);
    before = λ r s h. then_Greater (cmp (range_inclusive_end r) (range_inclusive_start s)) ∙ ap is_lt h;
    before_from = λ r s h. lt_is _ (sym (then_Greater (cmp (range_inclusive_end r) (range_inclusive_start s))) ∙ h);
    touches_within = λ r s t u below h g touching. (
      below,
      λ z z-key up down. touching.1 z z-key
          (le_lt o (sym (ap is_le (same_side (range_inclusive_end r) (range_inclusive_end t) true)) ∙ h) up)
          (lt_le o down (sym (ap is_le (same_side (range_inclusive_start u) (range_inclusive_start s) false)) ∙ g)),
    );
    holds = λ r x. sym (ap (λ c. is_le c && is_lt (side_cmp cmp (x, false) (range_inclusive_end r, true))) (same_side (range_inclusive_start r) x false) ∙ ap (λ c. is_le (cmp (range_inclusive_start r) x) && c) (then_Less (cmp x (range_inclusive_end r))));
    cuts = λ r x. sym (closed_cut (range_inclusive_start r) (range_inclusive_end r) x);
    held = λ item x h. by item x (cmp x (range_inclusive_end item)) refl h;
    cut_held = λ r x h. and_lt_le (is_le (cmp (range_inclusive_start r) x)) (cmp x (range_inclusive_end r)) h;
    between_start = λ a b. refl;
    between_end = λ a b. refl;
    between_start_place = λ a b. refl;
    between_end_place = λ a b. refl;
    between_non_empty = λ a b h. (sym (then_Less (cmp (range_inclusive_start a) (range_inclusive_end b))) ∙ ap is_lt h, refl);
  }
    where
      by : (item : RangeInclusive K) (x : K) (c : Ordering) → cmp x (range_inclusive_end item) ≡ c → (is_le (cmp (range_inclusive_start item) x) && is_le c) ≡ true
          → (side_cmp cmp (x, false) (range_inclusive_start item, false) ≡ Equal)
          ⊎ (((r : RangeInclusive K) → (closed is_key cmp).IsNonEmpty r → side_cmp cmp (range_inclusive_end item, true) (range_inclusive_end r, true) ≡ Equal → (closed is_key cmp).holds r x ≡ true)
          ⊎ ((is_le (cmp (range_inclusive_start item) x) && is_lt (cmp x (range_inclusive_end item))) ≡ true))
      by item x Less e h = inr (inr (both_true (first_so _ _ h) (ap is_lt e)))
      by item x Equal e h = inr (inl (λ r full tied.
          let at_end = eq_eq o e (sym (same_side (range_inclusive_end item) (range_inclusive_end r) true) ∙ tied) in
          both_true (le_eq o _ _ _ full.0 (eq_turn o at_end)) (le_Equal at_end)))
      by item x Greater e h = absurd (true≢false (sym (second_so _ _ h)))
