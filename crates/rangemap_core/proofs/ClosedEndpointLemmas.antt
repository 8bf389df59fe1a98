-- Edges of closed ranges: what the code compares in place of places.
use Rattle.std.proofs.Common.{◌≡◌, true, false, Option, Some, ◌∙◌, ap, sym, subst, refl, true≢false, Ordering, Less, Equal, Greater, is_lt, is_le}
use Rattle.std.specs.Cmp.{IsTotalOrder}
use Rattle.std.specs.declared.ops.RangeInclusive.{RangeInclusive}
use Rattle.std.specs.Range.{range_inclusive_start, range_inclusive_end, range_inclusive_exhausted}
use Rattle.rangemap_core.specs.Ranges.{closed}
use Rattle.rangemap_core.specs.MadeRanges.{IsSame}
use Rattle.rangemap_core.specs.Steps.{GivesSuccessors, GivesPredecessors}
use Rattle.rangemap_core.specs.engine.Places.{place_cmp}
use Rattle.rangemap_core.specs.laws.Orders.{eq_le, eq_turn, le_eq}
use Rattle.rangemap_core.specs.engine.ClosedPlaces.{After, after_le, after_le_from, closed_end_place, ends_as_places, holds_by, tied_touches, touches_tied}
use Rattle.rangemap_core.specs.engine.Endpoints.{EndpointOf, AtStart, AtEnd, IsAsked, IsAskedAt, is_before}
use Rattle.rangemap_core.specs.engine.ClosedEndpoints.{closed_placed, closed_first, closed_last, closed_part}
use Rattle.rangemap_core.specs.Touch.{IsTouch}
use Rattle.rangemap_core.specs.declared.kind.Touch.{Touch}
use Rattle.rangemap_core.specs.declared.kind.Touch.TheVariants.{Apart, Touching, NotBefore}

module _ {K : Type 0} (is_key : K → Type 0) (cmp : K → K → Ordering) (o : IsTotalOrder cmp) (after before : K → Option K)
    (follows : GivesSuccessors is_key cmp after) (precedes : GivesPredecessors is_key cmp before) where
  abbrev IsKeyed : EndpointOf (RangeInclusive K) → Type 0
  IsKeyed = IsAskedAt (closed is_key cmp)

  abbrev is_part : EndpointOf (RangeInclusive K) → EndpointOf (RangeInclusive K) → Type 0
  is_part from to = is_before (closed is_key cmp) (closed_end_place after) from to ≡ true

  -- from a start up to an end
  pub start_to_end : (from to : EndpointOf (RangeInclusive K)) (r s : RangeInclusive K) (x e : K) → from ≡ AtStart r → to ≡ AtEnd s → IsKeyed from → IsKeyed to
      → x ≡ range_inclusive_start r → e ≡ range_inclusive_end s → is_le (cmp x e) ≡ is_before (closed is_key cmp) (closed_end_place after) from to
  start_to_end from to r s x e h i a b starts ends =
      let r-asked = subst IsKeyed h a in
      let s-asked = subst IsKeyed i b in
      ap is_le (ap (λ y. cmp y e) starts ∙ ap (cmp (range_inclusive_start r)) ends)
      ∙ holds_by is_key cmp o (range_inclusive_start r) (range_inclusive_end s) r-asked.start_is_key (after (range_inclusive_end s)) (follows (range_inclusive_end s) s-asked.end_is_key)
      (cmp (range_inclusive_start r) (range_inclusive_end s)) refl
      ∙ sym (ap (λ f. is_before (closed is_key cmp) (closed_end_place after) f to) h ∙ ap (is_before (closed is_key cmp) (closed_end_place after) (AtStart r)) i)

  -- from an end up to another
  pub end_to_end : (from to : EndpointOf (RangeInclusive K)) (r s : RangeInclusive K) (x e : K) → from ≡ AtEnd r → to ≡ AtEnd s → IsKeyed from → IsKeyed to
      → x ≡ range_inclusive_end r → e ≡ range_inclusive_end s → is_lt (cmp x e) ≡ is_before (closed is_key cmp) (closed_end_place after) from to
  end_to_end from to r s x e h i a b starts ends =
      let r-asked = subst IsKeyed h a in
      let s-asked = subst IsKeyed i b in
      ap is_lt (ap (λ y. cmp y e) starts ∙ ap (cmp (range_inclusive_end r)) ends)
      ∙ ap is_lt (ends_as_places is_key cmp o (range_inclusive_end r) (range_inclusive_end s) r-asked.end_is_key s-asked.end_is_key (after (range_inclusive_end r)) (after (range_inclusive_end s))
      (follows (range_inclusive_end r) r-asked.end_is_key) (follows (range_inclusive_end s) s-asked.end_is_key) (cmp (range_inclusive_end r) (range_inclusive_end s)) refl)
      ∙ sym (ap (λ f. is_before (closed is_key cmp) (closed_end_place after) f to) h ∙ ap (is_before (closed is_key cmp) (closed_end_place after) (AtEnd r)) i)

  -- from an end up to a start, as the touch test tells it
  module _ (r s : RangeInclusive K) (a : IsAsked (closed is_key cmp) r) (b : IsAsked (closed is_key cmp) s) where
    abbrev ends_at : Ordering
    ends_at = place_cmp cmp (after (range_inclusive_end r)) (Some (range_inclusive_start s))

    next : After is_key cmp o (range_inclusive_end r) (after (range_inclusive_end r))
    next = follows (range_inclusive_end r) a.end_is_key

    apart_is_before : IsTouch (closed is_key cmp) r s Apart → true ≡ is_lt ends_at
    apart_is_before h = go ends_at refl (after_le is_key cmp o (range_inclusive_end r) (range_inclusive_start s) b.start_is_key h.0 (after (range_inclusive_end r)) next)
      where
        go : (t : Ordering) → ends_at ≡ t → is_le t ≡ true → true ≡ is_lt t
        go Less e l = refl
        go Equal e l = absurd (h.1 (h.0, tied_touches is_key cmp o (range_inclusive_end r) (range_inclusive_start s) (after (range_inclusive_end r)) next e))
        go Greater e l = absurd (true≢false (sym l))

    touching_is_not_before : IsTouch (closed is_key cmp) r s Touching → false ≡ is_lt ends_at
    touching_is_not_before h = sym (ap is_lt (touches_tied is_key cmp o (range_inclusive_end r) (range_inclusive_start s) b.start_is_key (after (range_inclusive_end r)) next h.1.0 h.1.1))

    behind_is_not_before : IsTouch (closed is_key cmp) r s NotBefore → false ≡ is_lt ends_at
    behind_is_not_before h = go ends_at refl
      where
        go : (t : Ordering) → ends_at ≡ t → false ≡ is_lt t
        go Less e = absurd (h (after_le_from is_key cmp o (range_inclusive_end r) (range_inclusive_start s) (after (range_inclusive_end r)) next (ap is_le e)))
        go Equal e = refl
        go Greater e = refl

    told_otherwise : (touch : Touch) → IsTouch (closed is_key cmp) r s touch → ¬ (touch ≡ Apart) → false ≡ is_lt ends_at
    told_otherwise Apart h other = absurd (other refl)
    told_otherwise Touching h other = touching_is_not_before h
    told_otherwise NotBefore h other = behind_is_not_before h

  pub end_to_start : (from to : EndpointOf (RangeInclusive K)) (r s : RangeInclusive K) (touch : Touch) → from ≡ AtEnd r → to ≡ AtStart s → IsKeyed from → IsKeyed to → IsTouch (closed is_key cmp) r s touch
      → (touch ≡ Apart → true ≡ is_before (closed is_key cmp) (closed_end_place after) from to) × (¬ (touch ≡ Apart) → false ≡ is_before (closed is_key cmp) (closed_end_place after) from to)
  end_to_start from to r s touch h i a b told =
      let r-asked = subst IsKeyed h a in
      let s-asked = subst IsKeyed i b in
      let back = sym (ap (λ f. is_before (closed is_key cmp) (closed_end_place after) f to) h ∙ ap (is_before (closed is_key cmp) (closed_end_place after) (AtEnd r)) i) in
      (λ e. apart_is_before r s r-asked s-asked (subst (IsTouch (closed is_key cmp) r s) e told) ∙ back, λ other. told_otherwise r s r-asked s-asked touch told other ∙ back)

  -- a range with the ends of a part
  pub same_part : (from to : EndpointOf (RangeInclusive K)) (range : RangeInclusive K) → IsKeyed from → IsKeyed to → is_part from to
      → cmp (closed_first after from) (range_inclusive_start range) ≡ Equal → cmp (closed_last before to) (range_inclusive_end range) ≡ Equal
      → is_key (range_inclusive_start range) → is_key (range_inclusive_end range) → range_inclusive_exhausted range ≡ false
      → IsSame (closed is_key cmp) (closed_part after before from to) range
  same_part from to range a b h s t s-key t-key fresh =
      let part = (closed_placed is_key cmp o after before follows precedes).spans from to a b h in
      record {
        storable = record {
          start_is_key = s-key;
          end_is_key = t-key;
          non_empty = (eq_le o (range_inclusive_start range) (closed_first after from) (range_inclusive_end range) (eq_turn o s) (le_eq o (closed_first after from) (closed_last before to) (range_inclusive_end range) part.storable.non_empty.0 t), fresh);
        };
        starts = s;
        ends = t;
      }
