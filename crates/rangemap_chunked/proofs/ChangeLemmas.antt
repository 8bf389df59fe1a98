-- What a change of one chunk makes of the whole list.
use Rattle.std.proofs.Common.{◌≡◌, ◌⊎◌, inl, inr, Bool, true, false, cond, List, [], ◌∷◌, ◌++◌, Option, Some, None, refl, sym, ap, ◌∙◌, subst, true≢false, Ordering, Less, Equal, Greater, is_gt}
use Rattle.std.specs.Option.{IfSome, option_eq}
use Rattle.std.specs.Cmp.{IsTotalOrder, IsEquivalence}
use Rattle.rangemap_core.specs.Ranges.{RangeKind, IsStorable, IsCanonical, IsNewest, value_at}
use Rattle.rangemap_core.specs.engine.Endpoints.{IsPlaced, EndpointOf}
use Rattle.rangemap_core.specs.engine.Places.{place_cmp}
use Rattle.rangemap_core.specs.engine.Shape.{Shape, has_place, place_value, IsApart, IsApartFromNext, IsSpaced}
use Rattle.rangemap_core.specs.engine.Stretch.{Every}
use Rattle.rangemap_core.proofs.PlaceLemmas.{S, places, AreStorable, to_spaced, from_spaced, holds_is, value_is}
use Rattle.rangemap_core.proofs.StoredLemmas.{all_storable}
use Rattle.rangemap_core.proofs.ListLemmas.{Every-append, Every-right, Every-map, next_from_all, IsSpaced-left, IsSpaced-right, IsSpaced-cross, IsSpaced-append}
use Rattle.rangemap_sorted.specs.Changes.{IsChanged}
use Rattle.rangemap_chunked.proofs.BorderLemmas.{Every-left, Every-zip, Every-all, EndIsAt, left_border, right_border, around_alike, within_is}

none_last : {K : Type 0} (cmp : K → K → Ordering) (q : Option K) → place_cmp cmp None q ≡ Less → ⊥
none_last cmp None h = cc
none_last cmp (Some y) h = cc

module _ {K X : Type 0} {k : RangeKind K X} {end_place : X → Option K} {chunk : EndpointOf X → EndpointOf X → X} (p : IsPlaced k end_place chunk) {V : Type 0} {eq : V → V → Bool} (e : IsEquivalence eq) where
  -- the place is before a key
  abbrev At : Option K → Type 0
  At q = (x : K) × (q ≡ Some x) × k.is_key x

  end_at : (g : X) → IsStorable k g → (q : Option K) → place_cmp k.cmp (end_place g) q ≡ Less → At (end_place g)
  end_at g stored q l = go (end_place g) refl
    where
      go : (h : Option K) → end_place g ≡ h → At (end_place g)
      go None h = absurd (none_last k.cmp q (subst (λ u. place_cmp k.cmp u q ≡ Less) h l))
      go (Some x) h = (x, h, p.end_place_is_key g x stored h)

  module _ (pre mid post new : List (X × V)) (r : X) (canonical : IsCanonical k eq (pre ++ (mid ++ post))) (stored : IsStorable k r) (is_new : IsCanonical k eq new)
      (outside : (x : K) → k.is_key x → k.holds r x ≡ false → option_eq eq (value_at k new x) (value_at k mid x) ≡ true)
      (before : Every (λ a. place_cmp k.cmp (end_place a.0) (Some (k.start r)) ≡ Less) pre)
      (behind : Every (λ b. is_gt (place_cmp k.cmp (end_place r) (Some (k.start b.0))) ≡ false) post)
      (free : (Every (λ b. place_cmp k.cmp (end_place r) (Some (k.start b.0)) ≡ Less) post) ⊎ ((x : K) → k.is_key x → k.holds r x ≡ true → value_at k new x ≡ None)) where
    abbrev s : Shape X (Option K) V
    s = S p eq

    o : IsTotalOrder (place_cmp k.cmp)
    o = places p eq

    spaced : IsSpaced s (pre ++ (mid ++ post))
    spaced = to_spaced p eq (pre ++ (mid ++ post)) canonical

    spaced_rest : IsSpaced s (mid ++ post)
    spaced_rest = IsSpaced-right s o pre (mid ++ post) spaced

    storable : AreStorable p eq (pre ++ (mid ++ post))
    storable = all_storable k eq (pre ++ (mid ++ post)) canonical

    storable_pre : AreStorable p eq pre
    storable_pre = Every-left (λ a. IsStorable k a.0) pre (mid ++ post) storable

    storable_rest : AreStorable p eq (mid ++ post)
    storable_rest = Every-right (λ a. IsStorable k a.0) pre (mid ++ post) storable

    storable_mid : AreStorable p eq mid
    storable_mid = Every-left (λ a. IsStorable k a.0) mid post storable_rest

    storable_post : AreStorable p eq post
    storable_post = Every-right (λ a. IsStorable k a.0) mid post storable_rest

    storable_new : AreStorable p eq new
    storable_new = all_storable k eq new is_new

    starts_at : (xs : List (X × V)) → AreStorable p eq xs → Every (λ n. At (Some (k.start n.0))) xs
    starts_at xs h = Every-map (λ a. IsStorable k a.0) (λ n. At (Some (k.start n.0))) xs (λ n h. (k.start n.0, refl, h.start_is_key)) h

    ends_at : Every (EndIsAt s o e At) mid
    ends_at = Every-map (λ a. IsStorable k a.0) (EndIsAt s o e At) mid (λ a h q l. end_at a.0 h q l) storable_mid

    outside_places : (q : Option K) → At q → has_place s r q ≡ false → option_eq eq (place_value s new q) (place_value s mid q) ≡ true
    outside_places q at h = subst (λ u. option_eq eq (place_value s new u) (place_value s mid u) ≡ true) (sym at.1) (by_key at.0 at.2 (subst (λ u. has_place s r u ≡ false) at.1 h))
      where
        by_key : (x : K) → k.is_key x → has_place s r (Some x) ≡ false → option_eq eq (place_value s new (Some x)) (place_value s mid (Some x)) ≡ true
        by_key x key h = sym (λ i. option_eq eq (value_is p eq new x storable_new key i) (value_is p eq mid x storable_mid key i)) ∙ outside x key (holds_is p eq r x stored key ∙ h)

    spaced_new : IsSpaced s new
    spaced_new = to_spaced p eq new is_new

    spaced_mid : IsSpaced s mid
    spaced_mid = IsSpaced-left s o mid post spaced_rest

    cross : Every (λ a. Every (IsApart s a) (mid ++ post)) pre
    cross = IsSpaced-cross s o pre (mid ++ post) spaced

    cross_new : Every (λ a. Every (IsApart s a) new) pre
    cross_new = left_border s o e At mid new r spaced_mid spaced_new (starts_at new storable_new) ends_at outside_places pre (Every-map _ (λ a. Every (IsApart s a) mid) pre (λ a h. Every-left (IsApart s a) mid post h) cross) before

    new_from_next : (xs : List (X × V)) → AreStorable p eq xs → Every (λ a. Every (IsApart s a) xs) mid
        → Every (λ b. is_gt (place_cmp k.cmp (end_place r) (Some (k.start b.0))) ≡ false) xs
        → (Every (λ b. place_cmp k.cmp (end_place r) (Some (k.start b.0)) ≡ Less) xs) ⊎ ((x : K) → k.is_key x → k.holds r x ≡ true → value_at k new x ≡ None)
        → Every (λ n. IsApartFromNext s n xs) new
    new_from_next [] st apart past f = Every-all (λ n. IsApartFromNext s n []) new (λ n. tt)
    new_from_next (b ∷ xs) st apart past f =
        right_border s o e At mid new r spaced_mid spaced_new (starts_at new storable_new) ends_at outside_places b (k.start b.0, refl, st.0.start_is_key)
        (Every-map _ (λ m. IsApart s m b) mid (λ m h. h.0) apart) (p.non_empty r stored) (k.start r, refl, stored.start_is_key) (λ q l. end_at r stored q l) (elim f [
          | inl strict ↦ inl strict.0
          | inr none ↦ by_order none (place_cmp k.cmp (end_place r) (Some (k.start b.0))) refl past.0
        ])
      where
        none_at : ((x : K) → k.is_key x → k.holds r x ≡ true → value_at k new x ≡ None) → (q : Option K) → At q → has_place s r q ≡ true → place_value s new q ≡ None
        none_at none q at h = subst (λ u. place_value s new u ≡ None) (sym at.1) (sym (value_is p eq new at.0 storable_new at.2) ∙ none at.0 at.2 (holds_is p eq r at.0 stored at.2 ∙ subst (λ u. has_place s r u ≡ true) at.1 h))

        by_order : ((x : K) → k.is_key x → k.holds r x ≡ true → value_at k new x ≡ None) → (c : Ordering) → place_cmp k.cmp (end_place r) (Some (k.start b.0)) ≡ c → is_gt c ≡ false
            → (place_cmp k.cmp (end_place r) (Some (k.start b.0)) ≡ Less) ⊎ ((place_cmp k.cmp (end_place r) (Some (k.start b.0)) ≡ Equal) × ((q : Option K) → At q → has_place s r q ≡ true → place_value s new q ≡ None))
        by_order none Less h g = inl h
        by_order none Equal h g = inr (h, λ q at t. none_at none q at t)
        by_order none Greater h g = absurd (true≢false g)

    spaced_behind : IsSpaced s (new ++ post)
    spaced_behind = IsSpaced-append s o new post spaced_new (IsSpaced-right s o mid post spaced_rest) (new_from_next post storable_post (IsSpaced-cross s o mid post spaced_rest) behind free)

    spaced_all : IsSpaced s (pre ++ (new ++ post))
    spaced_all = IsSpaced-append s o pre (new ++ post) (IsSpaced-left s o pre (mid ++ post) spaced) spaced_behind
        (Every-zip (λ a. Every (IsApart s a) (mid ++ post)) (λ a. Every (IsApart s a) new) (λ a. IsApartFromNext s a (new ++ post)) pre
        (λ a h n. next_from_all s o a (new ++ post) (Every-append (IsApart s a) new post n (Every-right (IsApart s a) mid post h))) cross cross_new)

    storable_all : AreStorable p eq (pre ++ (new ++ post))
    storable_all = Every-append (λ a. IsStorable k a.0) pre (new ++ post) storable_pre (Every-append (λ a. IsStorable k a.0) new post storable_new storable_post)

    pub joined_canonical : IsCanonical k eq (pre ++ (new ++ post))
    joined_canonical = from_spaced p eq (pre ++ (new ++ post)) storable_all spaced_all

    pub joined_outside : (x : K) → k.is_key x → k.holds r x ≡ false → option_eq eq (value_at k (pre ++ (new ++ post)) x) (value_at k (pre ++ (mid ++ post)) x) ≡ true
    joined_outside x key h =
        (λ i. option_eq eq (value_is p eq (pre ++ (new ++ post)) x storable_all key i) (value_is p eq (pre ++ (mid ++ post)) x storable key i))
        ∙ around_alike s o e pre post mid new (Some x) (outside_places (Some x) (x, refl, key) (sym (holds_is p eq r x stored key) ∙ h))

    pub joined_inside : (x : K) → k.is_key x → k.holds r x ≡ true → value_at k (pre ++ (new ++ post)) x ≡ value_at k new x
    joined_inside x key h = value_is p eq (pre ++ (new ++ post)) x storable_all key ∙ within_is s o e pre post new r (Some x) before behind (sym (holds_is p eq r x stored key) ∙ h) ∙ sym (value_is p eq new x storable_new key)

  is_none : (m : Option V) → option_eq eq m None ≡ true → m ≡ None
  is_none None h = refl
  is_none (Some v) h = absurd (true≢false (sym h))

  module _ (pre mid post new : List (X × V)) (r : X) (canonical : IsCanonical k eq (pre ++ (mid ++ post))) (stored : IsStorable k r) (before : Every (λ a. place_cmp k.cmp (end_place a.0) (Some (k.start r)) ≡ Less) pre)
      (m : Option V) (h : IsChanged k eq (value_at k mid) r m new) (past : Every (λ b. is_gt (place_cmp k.cmp (end_place r) (Some (k.start b.0))) ≡ false) post) (clear : IfSome m (λ _. Every (λ b. place_cmp k.cmp (end_place r) (Some (k.start b.0)) ≡ Less) post)) where
    at_key : (x : K) → k.is_key x → (b : Bool) → k.holds r x ≡ b → option_eq eq (value_at k new x) (cond b m (value_at k mid x)) ≡ true
    at_key x key b t = sym (ap (λ b. option_eq eq (value_at k new x) (cond b m (value_at k mid x))) t) ∙ h.canon.represents x key

    outside_alike : (x : K) → k.is_key x → k.holds r x ≡ false → option_eq eq (value_at k new x) (value_at k mid x) ≡ true
    outside_alike x key t = at_key x key false t

    free_of : (Every (λ b. place_cmp k.cmp (end_place r) (Some (k.start b.0)) ≡ Less) post) ⊎ ((x : K) → k.is_key x → k.holds r x ≡ true → value_at k new x ≡ None)
    free_of = go m (λ x key t. at_key x key true t) clear
      where
        go : (m : Option V) → ((x : K) → k.is_key x → k.holds r x ≡ true → option_eq eq (value_at k new x) m ≡ true) → IfSome m (λ _. Every (λ b. place_cmp k.cmp (end_place r) (Some (k.start b.0)) ≡ Less) post)
            → (Every (λ b. place_cmp k.cmp (end_place r) (Some (k.start b.0)) ≡ Less) post) ⊎ ((x : K) → k.is_key x → k.holds r x ≡ true → value_at k new x ≡ None)
        go None inside clear = inr (λ x key t. is_none (value_at k new x) (inside x key t))
        go (Some v) inside clear = inl clear

    inside_same : (x : K) → k.is_key x → k.holds r x ≡ true → value_at k (pre ++ (new ++ post)) x ≡ value_at k new x
    inside_same x key t = joined_inside pre mid post new r canonical stored h.canon.canonical outside_alike before past free_of x key t

    -- what a change of a chunk makes of the whole list
    pub changed_joined : IsChanged k eq (value_at k (pre ++ (mid ++ post))) r m (pre ++ (new ++ post))
    changed_joined = record {
      canon = record {
        canonical = joined_canonical pre mid post new r canonical stored h.canon.canonical outside_alike before past free_of;
        represents = λ x key. go x key (k.holds r x) refl;
      };
      newest = newest m h.newest;
    }
      where
        go : (x : K) → k.is_key x → (b : Bool) → k.holds r x ≡ b → option_eq eq (value_at k (pre ++ (new ++ post)) x) (cond b m (value_at k (pre ++ (mid ++ post)) x)) ≡ true
        go x key true t = ap (λ u. option_eq eq u m) (inside_same x key t) ∙ at_key x key true t
        go x key false t = joined_outside pre mid post new r canonical stored h.canon.canonical outside_alike before past free_of x key t

        newest : (m : Option V) → IfSome m (λ v. IsNewest k r v new) → IfSome m (λ v. IsNewest k r v (pre ++ (new ++ post)))
        newest None n = n
        newest (Some v) n = λ x key t. inside_same x key t ∙ n x key t
