-- Closed ranges lie between places, and answer by their endpoints what is asked about them. No contract of a container needs this.
use Rattle.std.proofs.Common.{◌≡◌, false, ◌&&◌, Option, Some, None, MatchOption, unwrap_or, ◌∙◌, ap, refl, sym, Ordering, Less, Equal, Greater, is_lt, is_le}
use Rattle.std.specs.Prelude.{◌≢◌}
use Rattle.std.specs.Cmp.{IsTotalOrder}
use Rattle.std.specs.declared.ops.RangeInclusive.{RangeInclusive}
use Rattle.std.specs.Range.{range_inclusive_start, range_inclusive_end}
use Rattle.rangemap_core.specs.Ranges.{closed}
use Rattle.rangemap_core.specs.Steps.{HasSmaller, IsNext, GivesSuccessors, GivesPredecessors}
use Rattle.rangemap_core.specs.engine.Places.{place_cmp, Spans}
use Rattle.rangemap_core.specs.engine.PlacedKinds.{place_total}
use Rattle.rangemap_core.specs.engine.EndpointKinds.{lt_is}
use Rattle.rangemap_core.specs.engine.Endpoints.{EndpointOf, AtStart, AtEnd, IsAskedAt, IsPlaced, place_of}
use Rattle.rangemap_core.specs.laws.Orders.{eq_lt, eq_turn, itself, lt_eq}
use Rattle.rangemap_core.specs.engine.ClosedPlaces.{After, after_le, after_le_from, below_after, closed_end_place, ends_as_places, holds_by, next_is_key, nexts_tied_by, tied_touches, touches_tied}

-- where two do not tie, being at most is being less
le_is_lt : (r : Ordering) → r ≢ Equal → is_le r ≡ is_lt r
le_is_lt Less h = refl
le_is_lt Equal h = absurd (h refl)
le_is_lt Greater h = refl

-- the key at which a range starts that goes from an endpoint on
abbrev pub closed_first : {K : Type 0} → (K → Option K) → EndpointOf (RangeInclusive K) → K
closed_first after (AtStart r) = range_inclusive_start r
closed_first after (AtEnd r) = unwrap_or (after (range_inclusive_end r)) (range_inclusive_end r)

-- the key at which a range ends that goes up to an endpoint
abbrev pub closed_last : {K : Type 0} → (K → Option K) → EndpointOf (RangeInclusive K) → K
closed_last before (AtStart r) = unwrap_or (before (range_inclusive_start r)) (range_inclusive_start r)
closed_last before (AtEnd r) = range_inclusive_end r

-- the range from one endpoint up to another
abbrev pub closed_part : {K : Type 0} → (after before : K → Option K) → EndpointOf (RangeInclusive K) → EndpointOf (RangeInclusive K) → RangeInclusive K
closed_part after before from to = record { start = closed_first after from; end = closed_last before to; exhausted = false }

module _ {K : Type 0} (is_key : K → Type 0) (cmp : K → K → Ordering) (o : IsTotalOrder cmp) where
  first_found : (e : K) (a b : Option K) → After is_key cmp o e a → place_cmp cmp a b ≡ Less → is_key (unwrap_or a e) × (place_cmp cmp (Some (unwrap_or a e)) a ≡ Equal)
  first_found e None None n h = cc
  first_found e None (Some y) n h = cc
  first_found e (Some g) b n h = (n.to_key, itself o g)

  tied_after : (x y : K) (a : Option K) → IsNext is_key cmp x y → After is_key cmp o x a → place_cmp cmp a (Some y) ≡ Equal
  tied_after x y None n m = absurd (m (record { other = y; is_a_key = n.to_key; greater = n.below }))
  tied_after x y (Some g) n m = nexts_tied_by is_key cmp o x x g y (itself o x) m n (cmp g y) refl

  last_found : (after : K → Option K) → GivesSuccessors is_key cmp after → (s y : K) (w : Option K) → is_key s → cmp s y ≡ Less → MatchOption w (¬ (HasSmaller is_key cmp y)) (λ x. IsNext is_key cmp x y)
      → is_key (unwrap_or w y) × (place_cmp cmp (after (unwrap_or w y)) (Some y) ≡ Equal)
  last_found after follows s y None s-key start_place n = absurd (n (record { other = s; is_a_key = s-key; smaller = start_place }))
  last_found after follows s y (Some x) s-key start_place n = (n.from_key, tied_after x y (after x) n (follows x n.from_key))

module _ {K : Type 0} (is_key : K → Type 0) (cmp : K → K → Ordering) (o : IsTotalOrder cmp) (after before : K → Option K)
    (follows : GivesSuccessors is_key cmp after) (precedes : GivesPredecessors is_key cmp before) where
  -- where an endpoint lies
  abbrev place : EndpointOf (RangeInclusive K) → Option K
  place = place_of (closed is_key cmp) (closed_end_place after)

  -- the ends of the endpoint's range are keys
  abbrev IsKeyed : EndpointOf (RangeInclusive K) → Type 0
  IsKeyed = IsAskedAt (closed is_key cmp)

  starts : (from : EndpointOf (RangeInclusive K)) (b : Option K) → IsKeyed from → place_cmp cmp (place from) b ≡ Less
      → is_key (closed_first after from) × (place_cmp cmp (Some (closed_first after from)) (place from) ≡ Equal)
  starts (AtStart r) b asked h = (asked.start_is_key, itself o (range_inclusive_start r))
  starts (AtEnd r) b asked h = first_found is_key cmp o (range_inclusive_end r) (after (range_inclusive_end r)) b (follows (range_inclusive_end r) asked.end_is_key) h

  ends : (to : EndpointOf (RangeInclusive K)) (s : K) → IsKeyed to → is_key s → place_cmp cmp (Some s) (place to) ≡ Less
      → is_key (closed_last before to) × (place_cmp cmp (after (closed_last before to)) (place to) ≡ Equal)
  ends (AtStart r) s asked s-key h = last_found is_key cmp o after follows s (range_inclusive_start r) (before (range_inclusive_start r)) s-key h (precedes (range_inclusive_start r) asked.start_is_key)
  ends (AtEnd r) s asked s-key h = (asked.end_is_key, itself (place_total o) (after (range_inclusive_end r)))

  closed_spans : (from to : EndpointOf (RangeInclusive K)) → IsKeyed from → IsKeyed to → place_cmp cmp (place from) (place to) ≡ Less
      → Spans (closed is_key cmp) (closed_end_place after) (place from) (place to) (closed_part after before from to)
  closed_spans from to a b h =
      let s = closed_first after from in
      let t = closed_last before to in
      let starts_at = starts from (place to) a h in
      let up : place_cmp cmp (Some s) (place to) ≡ Less = eq_lt (place_total o) {a = Some s} {b = place from} {c = place to} starts_at.1 h in
      let ends_at = ends to s b starts_at.0 up in
      let below : place_cmp cmp (Some s) (after t) ≡ Less = lt_eq (place_total o) {a = Some s} {b = place to} {c = after t} up (eq_turn (place_total o) {a = after t} {b = place to} ends_at.1) in
      record {
        storable = record {
          start_is_key = starts_at.0;
          end_is_key = ends_at.0;
          non_empty = (holds_by is_key cmp o s t starts_at.0 (after t) (follows t ends_at.0) (cmp s t) refl ∙ ap is_lt below, refl);
        };
        from = starts_at.1;
        to = ends_at.1;
      }

  -- one range starts no later than another ends
  starts_by_end : (x e : K) → is_key x → is_key e → is_le (cmp x e) ≡ is_lt (place_cmp cmp (Some x) (after e))
  starts_by_end x e x-key e-key = holds_by is_key cmp o x e x-key (after e) (follows e e-key) (cmp x e) refl

  pub closed_placed : IsPlaced (closed is_key cmp) (closed_end_place after) (closed_part after before)
  closed_placed = record {
    total = o;
    ends = λ r s p q. ends_as_places is_key cmp o (range_inclusive_end r) (range_inclusive_end s) p.end_is_key q.end_is_key (after (range_inclusive_end r)) (after (range_inclusive_end s))
        (follows (range_inclusive_end r) p.end_is_key) (follows (range_inclusive_end s) q.end_is_key) (cmp (range_inclusive_end r) (range_inclusive_end s)) refl;
    end_place_is_key = λ r x p h. next_is_key is_key cmp o (range_inclusive_end r) x (after (range_inclusive_end r)) (follows (range_inclusive_end r) p.end_is_key) h;
    non_empty = λ r p. below_after is_key cmp o (range_inclusive_start r) (range_inclusive_end r) p.non_empty.0 (after (range_inclusive_end r)) (follows (range_inclusive_end r) p.end_is_key);
    before = λ r s p q h. after_le is_key cmp o (range_inclusive_end r) (range_inclusive_start s) q.start_is_key h (after (range_inclusive_end r)) (follows (range_inclusive_end r) p.end_is_key);
    before_from = λ r s p q h. after_le_from is_key cmp o (range_inclusive_end r) (range_inclusive_start s) (after (range_inclusive_end r)) (follows (range_inclusive_end r) p.end_is_key) h;
    touches = λ r s p q h. touches_tied is_key cmp o (range_inclusive_end r) (range_inclusive_start s) q.start_is_key (after (range_inclusive_end r)) (follows (range_inclusive_end r) p.end_is_key) h.0 h.1;
    touches_from = λ r s p q h. (
      after_le_from is_key cmp o (range_inclusive_end r) (range_inclusive_start s) (after (range_inclusive_end r)) (follows (range_inclusive_end r) p.end_is_key) (ap is_le h),
      tied_touches is_key cmp o (range_inclusive_end r) (range_inclusive_start s) (after (range_inclusive_end r)) (follows (range_inclusive_end r) p.end_is_key) h,
    );
    meets = λ q r asked stored.
        ap (λ b. b && is_le (cmp (range_inclusive_start r) (range_inclusive_end q))) (starts_by_end (range_inclusive_start q) (range_inclusive_end r) asked.start_is_key stored.end_is_key)
        ∙ ap (λ b. is_lt (place_cmp cmp (Some (range_inclusive_start q)) (after (range_inclusive_end r))) && b) (starts_by_end (range_inclusive_start r) (range_inclusive_end q) stored.start_is_key asked.end_is_key);
    holds = λ q x asked key. ap (λ b. is_le (cmp (range_inclusive_start q) x) && b) (starts_by_end x (range_inclusive_end q) key asked.end_is_key);
    away_from_end = λ q x asked key h. sym (starts_by_end x (range_inclusive_end q) key asked.end_is_key) ∙ le_is_lt (cmp x (range_inclusive_end q)) h;
    spans = λ from to a b h. closed_spans from to a b (lt_is _ h);
  }
