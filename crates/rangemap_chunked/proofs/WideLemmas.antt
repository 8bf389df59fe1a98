-- What lies within a range may be left out of a list before the range is changed.
use Rattle.std.proofs.Common.{arith, ◌≡◌, inl, inr, ◌<◌, Bool, true, false, cond, List, [], ◌∷◌, ◌++◌, length, Option, Some, None, refl, sym, ap, ◌∙◌, subst, true≢false, append_assoc, Less, is_gt}
use Rattle.std.specs.Option.{option_eq}
use Rattle.std.specs.Prelude.{IfSome}
use Rattle.std.specs.Cmp.{IsTotalOrder, IsEquivalence}
use Rattle.rangemap_core.specs.Ranges.{RangeKind, IsCanonical, IsStorable, value_at}
use Rattle.rangemap_core.specs.engine.Endpoints.{IsPlaced, EndpointOf}
use Rattle.rangemap_core.specs.engine.Places.{place_cmp}
use Rattle.rangemap_core.specs.engine.Shape.{Shape, has_place, place_value, IsApart, IsSpaced}
use Rattle.rangemap_core.specs.engine.Stretch.{Every}
use Rattle.rangemap_core.proofs.PlaceLemmas.{S, places, AreStorable, to_spaced, from_spaced, holds_is, value_is}
use Rattle.rangemap_core.proofs.PlaceOrderLemmas.{le_trans, lt_le_trans, lt_or_le}
use Rattle.rangemap_core.proofs.StoredLemmas.{all_storable}
use Rattle.rangemap_core.proofs.ListLemmas.{Every-append, Every-right, Every-map, holds_at, next_from_all, value_above, value_below, value_past, IsSpaced-append, IsSpaced-cross, IsSpaced-left, IsSpaced-right}
use Rattle.rangemap_sorted.specs.Changes.{IsChanged}
use Rattle.rangemap_chunked.proofs.CutLemmas.{canonical_left, canonical_right}
use Rattle.rangemap_chunked.proofs.BorderLemmas.{Every-left, Every-zip}
use Rattle.rangemap_chunked.proofs.ChangeLemmas.{changed_joined}

module _ {G P V : Type 0} (s : Shape G P V) (o : IsTotalOrder s.order) (r : G) where
  -- the pair's range is a part of the given one
  abbrev pub IsWithin : G × V → Type 0
  IsWithin a = (is_gt (s.order (s.start_place r) (s.start_place a.0)) ≡ false) × (is_gt (s.order (s.end_place a.0) (s.end_place r)) ≡ false)

  none_outside : (gone : List (G × V)) (q : P) → Every IsWithin gone → has_place s r q ≡ false → place_value s gone q ≡ None
  none_outside gone q within out = elim (lt_or_le o q (s.start_place r)) [
    | inl below ↦ value_below s o gone q (Every-map IsWithin _ gone (λ a h. lt_le_trans o _ _ _ below h.0) within)
    | inr from ↦ elim (lt_or_le o q (s.end_place r)) [
      | inl to ↦ absurd (true≢false (sym (holds_at s o r q from to) ∙ out))
      | inr above ↦ value_above s o gone q (Every-map IsWithin _ gone (λ a h. le_trans o _ _ _ h.1 above) within)
    ]
  ]

  value_behind : (xs ys zs : List (G × V)) (q : P) → place_value s ys q ≡ place_value s zs q → place_value s (xs ++ ys) q ≡ place_value s (xs ++ zs) q
  value_behind [] ys zs q h = h
  value_behind (a ∷ xs) ys zs q h = ap (λ u. cond (has_place s a.0 q) (Some a.1) u) (value_behind xs ys zs q h)

  without_value : (xs gone ys : List (G × V)) (q : P) → Every IsWithin gone → has_place s r q ≡ false → place_value s (xs ++ (gone ++ ys)) q ≡ place_value s (xs ++ ys) q
  without_value xs gone ys q within out = value_behind xs (gone ++ ys) ys q (value_past s o gone ys q (none_outside gone q within out))

  without_spaced : (xs gone ys : List (G × V)) → IsSpaced s (xs ++ (gone ++ ys)) → IsSpaced s (xs ++ ys)
  without_spaced xs gone ys c =
      IsSpaced-append s o xs ys (IsSpaced-left s o xs (gone ++ ys) c) (IsSpaced-right s o gone ys (IsSpaced-right s o xs (gone ++ ys) c))
      (Every-map (λ a. Every (IsApart s a) (gone ++ ys)) _ xs (λ a h. next_from_all s o a ys (Every-right (IsApart s a) gone ys h)) (IsSpaced-cross s o xs (gone ++ ys) c))

  -- pairs before one that starts no later than the range ends
  within_before : (gone one rest : List (G × V)) → 0 < length one → IsSpaced s (gone ++ (one ++ rest)) → Every (λ a. is_gt (s.order (s.start_place a.0) (s.end_place r)) ≡ false) one
      → Every (λ b. is_gt (s.order (s.start_place r) (s.start_place b.0)) ≡ false) gone → Every IsWithin gone
  within_before gone [] rest l c touched past = absurd (omega arith)
  within_before gone (p ∷ ps) rest l c touched past =
      Every-zip (λ b. is_gt (s.order (s.start_place r) (s.start_place b.0)) ≡ false) (λ b. is_gt (s.order (s.end_place b.0) (s.end_place r)) ≡ false) IsWithin gone (λ b h k. (h, k)) past
      (Every-map (λ b. Every (IsApart s b) ((p ∷ ps) ++ rest)) _ gone (λ b h. le_trans o _ _ _ h.0.before touched.0) (IsSpaced-cross s o gone ((p ∷ ps) ++ rest) c))

-- ---- by keys

module _ {K X : Type 0} {k : RangeKind K X} {end_place : X → Option K} {part : EndpointOf X → EndpointOf X → X} (p : IsPlaced k end_place part) {V : Type 0} {eq : V → V → Bool} (e : IsEquivalence eq) (r : X) (stored : IsStorable k r) where
  module _ (xs gone ys : List (X × V)) (c : IsCanonical k eq (xs ++ (gone ++ ys))) (within : Every (IsWithin (S p eq) (places p eq) r) gone) where
    storable : AreStorable p eq (xs ++ (gone ++ ys))
    storable = all_storable k eq (xs ++ (gone ++ ys)) c

    storable_without : AreStorable p eq (xs ++ ys)
    storable_without = Every-append (λ a. IsStorable k a.0) xs ys (Every-left (λ a. IsStorable k a.0) xs (gone ++ ys) storable) (Every-right (λ a. IsStorable k a.0) gone ys (Every-right (λ a. IsStorable k a.0) xs (gone ++ ys) storable))

    pub without_canonical : IsCanonical k eq (xs ++ ys)
    without_canonical = from_spaced p eq (xs ++ ys) storable_without (without_spaced (S p eq) (places p eq) r xs gone ys (to_spaced p eq (xs ++ (gone ++ ys)) c))

    same_outside : (x : K) → k.is_key x → k.holds r x ≡ false → value_at k (xs ++ ys) x ≡ value_at k (xs ++ (gone ++ ys)) x
    same_outside x key out =
        value_is p eq (xs ++ ys) x storable_without key
        ∙ sym (without_value (S p eq) (places p eq) r xs gone ys (Some x) within (sym (holds_is p eq r x stored key) ∙ out))
        ∙ sym (value_is p eq (xs ++ (gone ++ ys)) x storable key)

    same_changed : (m : Option V) (new : List (X × V)) (x : K) → k.is_key x → option_eq eq (value_at k new x) (cond (k.holds r x) m (value_at k (xs ++ ys) x)) ≡ true → option_eq eq (value_at k new x) (cond (k.holds r x) m (value_at k (xs ++ (gone ++ ys)) x)) ≡ true
    same_changed m new x key h = go (k.holds r x) refl h
      where
        go : (b : Bool) → k.holds r x ≡ b → option_eq eq (value_at k new x) (cond b m (value_at k (xs ++ ys) x)) ≡ true → option_eq eq (value_at k new x) (cond b m (value_at k (xs ++ (gone ++ ys)) x)) ≡ true
        go true t h = h
        go false t h = sym (ap (λ u. option_eq eq (value_at k new x) u) (same_outside x key t)) ∙ h

    changed_without : (m : Option V) (new : List (X × V)) → IsChanged k eq (value_at k (xs ++ ys)) r m new → IsChanged k eq (value_at k (xs ++ (gone ++ ys))) r m new
    changed_without m new h = record {
      canon = record { canonical = h.canon.canonical; represents = λ x key. same_changed m new x key (h.canon.represents x key) };
      newest = h.newest;
    }

  -- a list in which one pair behind the first part may reach past the range, or touch it
  module _ (all pre a gone one rest post : List (X × V)) (all_is : all ≡ pre ++ (a ++ (gone ++ (one ++ (rest ++ post))))) (c : IsCanonical k eq all) (some : 0 < length one)
      (touched : Every (λ b. is_gt (place_cmp k.cmp (Some (k.start b.0)) (end_place r)) ≡ false) one)
      (past : Every (λ b. is_gt (place_cmp k.cmp (Some (k.start r)) (Some (k.start b.0))) ≡ false) gone) where
    all_by : all ≡ (pre ++ a) ++ (gone ++ (one ++ (rest ++ post)))
    all_by = all_is ∙ sym (append_assoc pre a (gone ++ (one ++ (rest ++ post))))

    left_by : (pre ++ a) ++ (one ++ (rest ++ post)) ≡ pre ++ ((a ++ one) ++ (rest ++ post))
    left_by = append_assoc pre a (one ++ (rest ++ post)) ∙ ap (λ zs. pre ++ zs) (sym (append_assoc a one (rest ++ post)))

    canonical_by : IsCanonical k eq ((pre ++ a) ++ (gone ++ (one ++ (rest ++ post))))
    canonical_by = subst (IsCanonical k eq) all_by c

    within : Every (IsWithin (S p eq) (places p eq) r) gone
    within = within_before (S p eq) (places p eq) r gone one (rest ++ post) some (IsSpaced-right (S p eq) (places p eq) (pre ++ a) (gone ++ (one ++ (rest ++ post))) (to_spaced p eq ((pre ++ a) ++ (gone ++ (one ++ (rest ++ post)))) canonical_by)) touched past

    left_canonical : IsCanonical k eq (pre ++ ((a ++ one) ++ (rest ++ post)))
    left_canonical = subst (IsCanonical k eq) left_by (without_canonical (pre ++ a) gone (one ++ (rest ++ post)) canonical_by within)

    pub first_canonical : IsCanonical k eq (a ++ one)
    first_canonical = canonical_left k eq (a ++ one) (rest ++ post) (canonical_right k eq pre ((a ++ one) ++ (rest ++ post)) left_canonical)

    module _ (new : List (X × V)) (before : Every (λ b. place_cmp k.cmp (end_place b.0) (Some (k.start r)) ≡ Less) pre) where
      pub wide_changed : (m : Option V) → IsChanged k eq (value_at k (a ++ one)) r m new → Every (λ b. is_gt (place_cmp k.cmp (end_place r) (Some (k.start b.0))) ≡ false) (rest ++ post)
          → IfSome m (λ _. Every (λ b. place_cmp k.cmp (end_place r) (Some (k.start b.0)) ≡ Less) (rest ++ post)) → IsChanged k eq (value_at k all) r m (pre ++ (new ++ (rest ++ post)))
      wide_changed m h behind clear =
          subst (λ zs. IsChanged k eq (value_at k zs) r m (pre ++ (new ++ (rest ++ post)))) (sym all_by)
          (changed_without (pre ++ a) gone (one ++ (rest ++ post)) canonical_by within m (pre ++ (new ++ (rest ++ post)))
          (subst (λ zs. IsChanged k eq (value_at k zs) r m (pre ++ (new ++ (rest ++ post)))) (sym left_by)
          (changed_joined p e pre (a ++ one) (rest ++ post) new r left_canonical stored before m h behind clear)))
