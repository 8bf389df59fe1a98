-- A chunk of a canonical list that was changed stands well between what is before it and behind it.
use Rattle.std.proofs.Common.{arith, ◌≡◌, ◌⊎◌, inl, inr, Bool, true, false, cond, List, [], ◌∷◌, ◌++◌, Option, Some, None, refl, sym, ap, ◌∙◌, true≢false, Ordering, Less, Equal, is_gt}
use Rattle.std.specs.Option.{option_eq}
use Rattle.std.specs.Cmp.{IsTotalOrder, IsEquivalence}
use Rattle.rangemap_core.specs.engine.Shape.{Shape, has_place, place_value, IsApart, IsSpaced}
use Rattle.rangemap_core.specs.engine.Stretch.{Every}
use Rattle.rangemap_core.proofs.AlikeLemmas.{same_itself, same_turned, or_else}
use Rattle.rangemap_core.proofs.JoinLemmas.{starts_rise}
use Rattle.rangemap_core.proofs.PlaceOrderLemmas.{lt_le, tied_le, tied_ge, le_trans, lt_le_trans, le_lt_trans, lt_or_le, not_both, le_refl}
use Rattle.rangemap_core.proofs.ListLemmas.{Every-map, holds_above, holds_at, value_below, value_above, value_past, value_before, value_here, value_skip, apart_from_all, IsApart-from_lt}

pub Every-left : {X : Type 0} (Q : X → Type 0) (xs ys : List X) → Every Q (xs ++ ys) → Every Q xs
Every-left Q [] ys h = tt
Every-left Q (x ∷ xs) ys h = (h.0, Every-left Q xs ys h.1)

pub Every-zip : {X : Type 0} (Q S T : X → Type 0) (xs : List X) → ((x : X) → Q x → S x → T x) → Every Q xs → Every S xs → Every T xs
Every-zip Q S T [] f h k = tt
Every-zip Q S T (x ∷ xs) f h k = (f x h.0 k.0, Every-zip Q S T xs f h.1 k.1)

pub Every-all : {X : Type 0} (Q : X → Type 0) (xs : List X) → ((x : X) → Q x) → Every Q xs
Every-all Q [] f = tt
Every-all Q (x ∷ xs) f = (f x, Every-all Q xs f)

module _ {V : Type 0} (same : V → V → Bool) (w : V) where
  none_is : (m : Option V) → m ≡ None → option_eq same m (Some w) ≡ true → ⊥
  none_is m e h = true≢false (sym h ∙ ap (λ u. option_eq same u (Some w)) e)

  some_is : (m : Option V) (v : V) → m ≡ Some v → option_eq same m (Some w) ≡ true → same v w ≡ true
  some_is m v e h = sym (ap (λ u. option_eq same u (Some w)) e) ∙ h

module _ {P : Type 0} {order : P → P → Ordering} (o : IsTotalOrder order) where
  tie : (x y : P) → is_gt (order x y) ≡ false → is_gt (order y x) ≡ false → order x y ≡ Equal
  tie x y h k = grind (arith, h, k, o.antisymm x y)

module _ {G P V : Type 0} (s : Shape G P V) (o : IsTotalOrder s.order) (e : IsEquivalence s.same) where
  -- equal values beside a third
  congr_left : (v w b : V) → s.same v w ≡ true → s.same v b ≡ false → s.same w b ≡ false
  congr_left v w b h k = sym (e.congr v w b h) ∙ k

  congr_right : (a m n : V) → s.same m n ≡ true → s.same a m ≡ false → s.same a n ≡ false
  congr_right a m n h k = e.symm a n ∙ sym (e.congr m n a h) ∙ e.symm m a ∙ k

  both_same : (a c w : V) → s.same a w ≡ true → s.same c w ≡ true → s.same a c ≡ true
  both_same a c w h k = e.congr a w c h ∙ e.symm w c ∙ k

  -- the pair that gives a place its value
  pub record Gives (Q : G × V → Type 0) (q : P) (w : V) : Type 0 where
    pub pair : G × V
    pub is : Q pair
    pub from : is_gt (s.order (s.start_place pair.0) q) ≡ false
    pub to : s.order q (s.end_place pair.0) ≡ Less
    pub equal : s.same pair.1 w ≡ true

  gives : (Q : G × V → Type 0) (xs : List (G × V)) (q : P) (w : V) → Every Q xs → option_eq s.same (place_value s xs q) (Some w) ≡ true → Gives Q q w
  gives Q [] q w h v = absurd (true≢false (sym v))
  gives Q (a ∷ xs) q w h v = elim (lt_or_le o q (s.start_place a.0)) [
    | inl below ↦ gives Q xs q w h.1 (skip (grind (arith, below)))
    | inr from ↦ elim (lt_or_le o q (s.end_place a.0)) [
      | inl to ↦ record { pair = a; is = h.0; from = from; to = to; equal = some_is s.same w (place_value s (a ∷ xs) q) a.1 (value_here s o a xs q from to) v }
      | inr above ↦ gives Q xs q w h.1 (skip (holds_above s o a.0 q above))
    ]
  ]
    where
      skip : has_place s a.0 q ≡ false → option_eq s.same (place_value s xs q) (Some w) ≡ true
      skip n = sym (ap (λ b. option_eq s.same (cond b (Some a.1) (place_value s xs q)) (Some w)) n) ∙ v

  -- a place within a range of a spaced list has that range's value
  abbrev IsValued : List (G × V) → G × V → Type 0
  IsValued xs n = (q : P) → is_gt (s.order (s.start_place n.0) q) ≡ false → s.order q (s.end_place n.0) ≡ Less → place_value s xs q ≡ Some n.1

  pub values_within : (xs : List (G × V)) → IsSpaced s xs → Every (IsValued xs) xs
  values_within [] c = tt
  values_within (a ∷ xs) c = (
    λ q from to. value_here s o a xs q from to,
    Every-zip (IsApart s a) (IsValued xs) (IsValued (a ∷ xs)) xs (λ n apart h q from to. value_skip s o a xs q (le_trans o _ _ _ apart.before from) ∙ h q from to) (apart_from_all s o a xs c) (values_within xs c.2),
  )

  fulls : (xs : List (G × V)) → IsSpaced s xs → Every (λ n. s.order (s.start_place n.0) (s.end_place n.0) ≡ Less) xs
  fulls [] c = tt
  fulls (a ∷ xs) c = (c.0, fulls xs c.2)

  -- what follows the first range has another value where that ends
  ends_there : (a : G × V) (xs : List (G × V)) (w : V) → IsSpaced s (a ∷ xs) → s.same a.1 w ≡ true → option_eq s.same (place_value s xs (s.end_place a.0)) (Some w) ≡ true → ⊥
  ends_there a [] w c h v = true≢false (sym v)
  ends_there a (n ∷ xs) w c h v = elim (lt_or_le o (s.end_place a.0) (s.start_place n.0)) [
    | inl below ↦ none_is s.same w (place_value s (n ∷ xs) (s.end_place a.0)) (value_below s o (n ∷ xs) (s.end_place a.0) (Every-map _ _ (n ∷ xs) (λ b rise. lt_le_trans o _ _ _ below rise) (starts_rise s o e n xs c.2))) v
    | inr from ↦
        let tied : s.order (s.end_place a.0) (s.start_place n.0) ≡ Equal = tie o _ _ c.1.before from in
        let here : s.same n.1 w ≡ true = some_is s.same w (place_value s (n ∷ xs) (s.end_place a.0)) n.1 (value_here s o n xs (s.end_place a.0) from (le_lt_trans o _ _ _ c.1.before c.2.0)) v in
        true≢false (sym (both_same a.1 n.1 w h here) ∙ c.1.differs_at_touch tied)
  ]

  -- some places of interest, of which starts and most ends are
  module _ (At : P → Type 0) where
    abbrev pub EndIsAt : G × V → Type 0
    EndIsAt a = (q : P) → s.order (s.end_place a.0) q ≡ Less → At (s.end_place a.0)

    -- where all places from z up to the start of b have the value w, b's is another
    run_to_end : (b : G × V) (w : V) (xs : List (G × V)) → IsSpaced s xs → Every (λ m. IsApart s m b) xs → Every EndIsAt xs → (z : P) → At z → s.order z (s.start_place b.0) ≡ Less
        → ((q : P) → At q → is_gt (s.order z q) ≡ false → s.order q (s.start_place b.0) ≡ Less → option_eq s.same (place_value s xs q) (Some w) ≡ true) → s.same w b.1 ≡ false
    run_to_end b w [] c apart ends z at_z below h = absurd (true≢false (sym (h z at_z (le_refl o z) below)))
    run_to_end b w (a ∷ xs) c apart ends z at_z below h = elim (lt_or_le o z (s.start_place a.0)) [
      | inl early ↦ absurd (none_is s.same w (place_value s (a ∷ xs) z) (value_below s o (a ∷ xs) z (Every-map _ _ (a ∷ xs) (λ n rise. lt_le_trans o _ _ _ early rise) (starts_rise s o e a xs c))) (h z at_z (le_refl o z) below))
      | inr from ↦ elim (lt_or_le o z (s.end_place a.0)) [
        | inr above ↦ run_to_end b w xs c.2 apart.1 ends.1 z at_z below (λ q at_q le l. sym (ap (λ u. option_eq s.same u (Some w)) (value_skip s o a xs q (le_trans o _ _ _ above le))) ∙ h q at_q le l)
        | inl to ↦
            let here : s.same a.1 w ≡ true = some_is s.same w (place_value s (a ∷ xs) z) a.1 (value_here s o a xs z from to) (h z at_z (le_refl o z) below) in
            elim (lt_or_le o (s.end_place a.0) (s.start_place b.0)) [
              | inl short ↦ absurd (ends_there a xs w c here (sym (ap (λ u. option_eq s.same u (Some w)) (value_skip s o a xs (s.end_place a.0) (le_refl o (s.end_place a.0)))) ∙ h (s.end_place a.0) (ends.0 (s.start_place b.0) short) (lt_le o _ _ to) short))
              | inr reached ↦ congr_left a.1 w b.1 here (apart.0.differs_at_touch (tie o _ _ apart.0.before reached))
            ]
      ]
    ]

    -- the list `new` stands for `mid`, as far as no place of r is asked
    module _ (mid new : List (G × V)) (r : G) (spaced_mid : IsSpaced s mid) (spaced_new : IsSpaced s new) (starts : Every (λ n. At (s.start_place n.0)) new) (ends : Every EndIsAt mid)
        (outside : (q : P) → At q → has_place s r q ≡ false → option_eq s.same (place_value s new q) (place_value s mid q) ≡ true) where
      each_new : (Q : G × V → Type 0) → ((n : G × V) → IsValued new n → s.order (s.start_place n.0) (s.end_place n.0) ≡ Less → At (s.start_place n.0) → Q n) → Every Q new
      each_new Q f =
          Every-zip (IsValued new) (λ n. (s.order (s.start_place n.0) (s.end_place n.0) ≡ Less) × At (s.start_place n.0)) Q new (λ n valued h. f n valued h.0 h.1)
          (values_within new spaced_new) (Every-zip _ _ _ new (λ n full at_start. (full, at_start)) (fulls new spaced_new) starts)

      there : (n : G × V) → IsValued new n → (q : P) → At q → has_place s r q ≡ false → is_gt (s.order (s.start_place n.0) q) ≡ false → s.order q (s.end_place n.0) ≡ Less → option_eq s.same (place_value s mid q) (Some n.1) ≡ true
      there n valued q at_q out from to = same_turned e (Some n.1) (place_value s mid q) (sym (ap (λ u. option_eq s.same u (place_value s mid q)) (valued q from to)) ∙ outside q at_q out)

      apart_left : (a : G × V) → Every (IsApart s a) mid → s.order (s.end_place a.0) (s.start_place r) ≡ Less → (n : G × V) → IsValued new n → s.order (s.start_place n.0) (s.end_place n.0) ≡ Less → At (s.start_place n.0) → IsApart s a n
      apart_left a apart clear n valued full at_start = elim (lt_or_le o (s.start_place n.0) (s.start_place r)) [
        | inr inside ↦ IsApart-from_lt s o a n (lt_le_trans o _ _ _ clear inside)
        | inl early ↦ by_mid (gives (IsApart s a) mid (s.start_place n.0) n.1 apart (there n valued (s.start_place n.0) at_start (grind (arith, early)) (le_refl o _) full))
      ]
        where
          by_mid : Gives (IsApart s a) (s.start_place n.0) n.1 → IsApart s a n
          by_mid m = record {
            before = le_trans o _ _ _ m.is.before m.from;
            differs_at_touch = λ h. congr_right a.1 m.pair.1 n.1 m.equal (m.is.differs_at_touch (tie o _ _ m.is.before (le_trans o _ _ _ m.from (tied_ge o _ _ h))));
          }

      pub left_border : (pre : List (G × V)) → Every (λ a. Every (IsApart s a) mid) pre → Every (λ a. s.order (s.end_place a.0) (s.start_place r) ≡ Less) pre → Every (λ a. Every (IsApart s a) new) pre
      left_border pre cross clear = Every-zip _ _ (λ a. Every (IsApart s a) new) pre (λ a apart c. each_new (IsApart s a) (apart_left a apart c)) cross clear

      -- the first pair behind
      module _ (b : G × V) (at_b : At (s.start_place b.0)) (apart : Every (λ m. IsApart s m b) mid) (r_full : s.order (s.start_place r) (s.end_place r) ≡ Less) (r_start : At (s.start_place r)) (r_end : (q : P) → s.order (s.end_place r) q ≡ Less → At (s.end_place r))
          (behind : (s.order (s.end_place r) (s.start_place b.0) ≡ Less) ⊎ ((s.order (s.end_place r) (s.start_place b.0) ≡ Equal) × ((q : P) → At q → has_place s r q ≡ true → place_value s new q ≡ None))) where
        not_past : is_gt (s.order (s.end_place r) (s.start_place b.0)) ≡ false
        not_past = elim behind [ inl l ↦ lt_le o _ _ l | inr t ↦ tied_le o _ _ t.0 ]

        module _ (n : G × V) (valued : IsValued new n) (full : s.order (s.start_place n.0) (s.end_place n.0) ≡ Less) (at_start : At (s.start_place n.0)) where
          -- no place of n is as high as b
          not_high : (q : P) → At q → is_gt (s.order (s.start_place n.0) q) ≡ false → s.order q (s.end_place n.0) ≡ Less → is_gt (s.order (s.start_place b.0) q) ≡ false → ⊥
          not_high q at_q from to high =
              let m = gives (λ m. IsApart s m b) mid q n.1 apart (there n valued q at_q (holds_above s o r q (le_trans o _ _ _ not_past high)) from to) in
              not_both o q (s.end_place m.pair.0) m.to (le_trans o _ _ _ m.is.before high)

          ends_before : is_gt (s.order (s.end_place n.0) (s.start_place b.0)) ≡ false
          ends_before = elim (lt_or_le o (s.start_place b.0) (s.end_place n.0)) [
            | inr le ↦ le
            | inl more ↦ elim (lt_or_le o (s.start_place b.0) (s.start_place n.0)) [
              | inl below ↦ absurd (not_high (s.start_place n.0) at_start (le_refl o _) full (lt_le o _ _ below))
              | inr from ↦ absurd (not_high (s.start_place b.0) at_b from more (le_refl o _))
            ]
          ]

          -- the greater of two places
          module _ (touch : s.order (s.end_place n.0) (s.start_place b.0) ≡ Equal) where
            up_to_b : (q : P) → s.order q (s.end_place n.0) ≡ Less → s.order q (s.start_place b.0) ≡ Less
            up_to_b q l = lt_le_trans o _ _ _ l (tied_le o _ _ touch)

            from_b : (q : P) → s.order q (s.start_place b.0) ≡ Less → s.order q (s.end_place n.0) ≡ Less
            from_b q l = lt_le_trans o _ _ _ l (tied_ge o _ _ touch)

            -- all places from q up to b have the value of n
            by_run : (q : P) → At q → is_gt (s.order (s.start_place n.0) q) ≡ false → is_gt (s.order (s.end_place r) q) ≡ false → s.order q (s.start_place b.0) ≡ Less → s.same n.1 b.1 ≡ false
            by_run q at_q from past below = run_to_end b n.1 mid spaced_mid apart ends q at_q below (λ u at_u le l. there n valued u at_u (holds_above s o r u (le_trans o _ _ _ past le)) (le_trans o _ _ _ from le) (from_b u l))

            -- a place of r and of n
            in_both : (q : P) → At q → is_gt (s.order (s.start_place n.0) q) ≡ false → s.order q (s.end_place n.0) ≡ Less → is_gt (s.order (s.start_place r) q) ≡ false → s.order q (s.end_place r) ≡ Less → ((q : P) → At q → has_place s r q ≡ true → place_value s new q ≡ None) → ⊥
            in_both q at_q from to r_from r_to none = let f = valued q from to in let g = none q at_q (holds_at s o r q r_from r_to) in cc

            differs : s.same n.1 b.1 ≡ false
            differs = elim behind [
              | inl clear ↦ elim (lt_or_le o (s.end_place r) (s.start_place n.0)) [
                | inl below ↦ by_run (s.start_place n.0) at_start (le_refl o _) (lt_le o _ _ below) (up_to_b _ full)
                | inr from ↦ by_run (s.end_place r) (r_end (s.start_place b.0) clear) from (le_refl o _) clear
              ]
              | inr t ↦
                  let ends_at_b : is_gt (s.order (s.start_place b.0) (s.end_place r)) ≡ false = tied_ge o _ _ t.0 in
                  elim (lt_or_le o (s.start_place r) (s.start_place n.0)) [
                    | inl below ↦ absurd (in_both (s.start_place n.0) at_start (le_refl o _) full (lt_le o _ _ below) (lt_le_trans o _ _ _ (up_to_b _ full) ends_at_b) t.1)
                    | inr from ↦ absurd (in_both (s.start_place r) r_start from (from_b _ (lt_le_trans o _ _ _ r_full not_past)) (le_refl o _) r_full t.1)
                  ]
            ]

          apart_right : IsApart s n b
          apart_right = record { before = ends_before; differs_at_touch = λ h. differs h }

        pub right_border : Every (λ n. IsApart s n b) new
        right_border = each_new (λ n. IsApart s n b) apart_right

  -- ---- values in lists that were put together

  value_append : (xs ys : List (G × V)) (q : P) → place_value s (xs ++ ys) q ≡ or_else (place_value s xs q) (place_value s ys q)
  value_append [] ys q = refl
  value_append (a ∷ xs) ys q = go (value_append xs ys q) (has_place s a.0 q)
    where
      go : place_value s (xs ++ ys) q ≡ or_else (place_value s xs q) (place_value s ys q) → (b : Bool) → cond b (Some a.1) (place_value s (xs ++ ys) q) ≡ or_else (cond b (Some a.1) (place_value s xs q)) (place_value s ys q)
      go h true = refl
      go h false = h

  or_alike : (m n f g : Option V) → option_eq s.same m n ≡ true → option_eq s.same f g ≡ true → option_eq s.same (or_else m f) (or_else n g) ≡ true
  or_alike None None f g h k = k
  or_alike None (Some w) f g h k = absurd (true≢false (sym h))
  or_alike (Some v) None f g h k = absurd (true≢false (sym h))
  or_alike (Some v) (Some w) f g h k = h

  pub append_alike : (xs ys zs ws : List (G × V)) (q : P) → option_eq s.same (place_value s xs q) (place_value s ys q) ≡ true → option_eq s.same (place_value s zs q) (place_value s ws q) ≡ true → option_eq s.same (place_value s (xs ++ zs) q) (place_value s (ys ++ ws) q) ≡ true
  append_alike xs ys zs ws q h k = rw (value_append xs zs q, value_append ys ws q) (or_alike (place_value s xs q) (place_value s ys q) (place_value s zs q) (place_value s ws q) h k)

  -- outside r what stands around changes nothing
  pub around_alike : (pre post mid new : List (G × V)) (q : P) → option_eq s.same (place_value s new q) (place_value s mid q) ≡ true → option_eq s.same (place_value s (pre ++ (new ++ post)) q) (place_value s (pre ++ (mid ++ post)) q) ≡ true
  around_alike pre post mid new q h = append_alike pre pre (new ++ post) (mid ++ post) q (same_itself e (place_value s pre q)) (append_alike new mid post post q h (same_itself e (place_value s post q)))

  -- and within r it has nothing
  pub within_is : (pre post new : List (G × V)) (r : G) (q : P) → Every (λ a. s.order (s.end_place a.0) (s.start_place r) ≡ Less) pre → Every (λ b. is_gt (s.order (s.end_place r) (s.start_place b.0)) ≡ false) post → has_place s r q ≡ true → place_value s (pre ++ (new ++ post)) q ≡ place_value s new q
  within_is pre post new r q before behind h =
      let from : is_gt (s.order (s.start_place r) q) ≡ false = elim (lt_or_le o q (s.start_place r)) [ inl l ↦ absurd (true≢false (sym h ∙ (let f : has_place s r q ≡ false = grind (arith, l) in f))) | inr k ↦ k ] in
      let to : s.order q (s.end_place r) ≡ Less = elim (lt_or_le o q (s.end_place r)) [ inl l ↦ l | inr k ↦ absurd (true≢false (sym h ∙ holds_above s o r q k)) ] in
      value_past s o pre (new ++ post) q (value_above s o pre q (Every-map _ _ pre (λ a l. lt_le o _ _ (lt_le_trans o _ _ _ l from)) before))
      ∙ value_before s o new post q (value_below s o post q (Every-map _ _ post (λ b l. lt_le_trans o _ _ _ to l) behind))
