-- A spaced list of half-open ranges falls in two at any key, by the starts of its ranges.
use Rattle.std.proofs.Common.{◌≡◌, inl, inr, List, [], ◌∷◌, ◌++◌, Bool, true, false, cond, not, Option, refl, sym, ap, ◌∙◌, subst, true≢false, append_assoc, Ordering, Less, Equal, Greater, is_lt, is_le, is_gt}
use Rattle.std.specs.Cmp.{IsTotalOrder, IsEquivalence}
use Rattle.std.specs.Ordering.{ordering_reverse}
use Rattle.std.specs.declared.ops.Range.{Range}
use Rattle.rangemap_core.specs.engine.Places.{place_cmp}
use Rattle.rangemap_core.specs.engine.PlacedKinds.{place_total}
use Rattle.rangemap_core.specs.engine.Shape.{Shape, IsSpaced}
use Rattle.rangemap_core.specs.engine.Stretch.{Every}
use Rattle.rangemap_core.proofs.ListLemmas.{Every-map, Every-right, apart_from_all}
use Rattle.rangemap_core.proofs.PlaceOrderLemmas.{lt_le, lt_le_trans, le_lt_trans, lt_or_le}
use Rattle.rangemap_tree.specs.Starts.{before, from, past, up_to}
use Rattle.rangemap_tree.specs.Sides.{shape}

pub le_of : (r : Ordering) → is_gt r ≡ false → is_le r ≡ true
le_of Less h = refl
le_of Equal h = refl
le_of Greater h = absurd (true≢false h)

pub gt_of_le : (r : Ordering) → is_le r ≡ true → is_gt r ≡ false
gt_of_le Less h = refl
gt_of_le Equal h = refl
gt_of_le Greater h = absurd (true≢false (sym h))

pub not_le_of_gt : (r : Ordering) → is_gt r ≡ true → is_le r ≡ false
not_le_of_gt Less h = absurd (true≢false (sym h))
not_le_of_gt Equal h = absurd (true≢false (sym h))
not_le_of_gt Greater h = refl

above_by : (r : Ordering) → is_le r ≡ false → ordering_reverse r ≡ Less
above_by Less h = absurd (true≢false h)
above_by Equal h = absurd (true≢false h)
above_by Greater h = refl

pub less_if_above : {K : Type 0} {cmp : K → K → Ordering} → IsTotalOrder cmp → (a b : K) → is_le (cmp a b) ≡ false → cmp b a ≡ Less
less_if_above {cmp = cmp} o a b h = o.antisymm b a ∙ above_by (cmp a b) h

pub gt_not_le : (r : Ordering) → r ≡ Less → is_le (ordering_reverse r) ≡ false
gt_not_le Less h = refl
gt_not_le Equal h = cc
gt_not_le Greater h = cc

pub not_lt_of_le : (r : Ordering) → is_gt r ≡ false → is_lt (ordering_reverse r) ≡ false
not_lt_of_le Less h = refl
not_lt_of_le Equal h = refl
not_lt_of_le Greater h = absurd (true≢false h)

pub grouped : {X : Type 0} (us : List X) (a : X) (ws : List X) → (us ++ a ∷ []) ++ ws ≡ us ++ a ∷ ws
grouped us a ws = simp append_assoc

module _ {K V : Type 0} {cmp : K → K → Ordering} (o : IsTotalOrder cmp) where
  pub below_test : (y : K) (p : Range K × V) → cmp p.0.start y ≡ Less → is_le (cmp y p.0.start) ≡ false
  below_test y p h = ap is_le (o.antisymm y p.0.start) ∙ gt_not_le (cmp p.0.start y) h

  pub all_from : (y : K) (post : List (Range K × V)) → Every (λ (p : Range K × V). is_gt (cmp y p.0.start) ≡ false) post → (before cmp y post ≡ []) × (from cmp y post ≡ post)
  all_from y [] h = (refl, refl)
  all_from y (p ∷ post) h =
      let again = all_from y post h.1 in
      let q = le_of (cmp y p.0.start) h.0 in
      ((λ i. cond (not (q i)) (p ∷ again.0 i) (again.0 i)), (λ i. cond (q i) (p ∷ again.1 i) (again.1 i)))

  -- what starts before a key and what does not
  pub parts_at : (y : K) (pre post : List (Range K × V)) → Every (λ (p : Range K × V). cmp p.0.start y ≡ Less) pre → Every (λ (p : Range K × V). is_gt (cmp y p.0.start) ≡ false) post → (before cmp y (pre ++ post) ≡ pre) × (from cmp y (pre ++ post) ≡ post)
  parts_at y [] post l h = all_from y post h
  parts_at y (p ∷ pre) post l h =
      let again = parts_at y pre post l.1 h in
      let q = below_test y p l.0 in
      ((λ i. cond (not (q i)) (p ∷ again.0 i) (again.0 i)), (λ i. cond (q i) (p ∷ again.1 i) (again.1 i)))

  none_up_to : (y : K) (ps : List (Range K × V)) → Every (λ (p : Range K × V). cmp y p.0.start ≡ Less) ps → (up_to cmp y ps ≡ []) × (past cmp y ps ≡ ps)
  none_up_to y [] h = (refl, refl)
  none_up_to y (p ∷ ps) h =
      let again = none_up_to y ps h.1 in
      let q = ap is_lt h.0 in
      ((λ i. cond (not (q i)) (p ∷ again.0 i) (again.0 i)), (λ i. cond (q i) (p ∷ again.1 i) (again.1 i)))

  -- what starts after a key
  pub past_of : (y : K) (pre post : List (Range K × V)) → Every (λ (p : Range K × V). cmp p.0.start y ≡ Less) pre → Every (λ (p : Range K × V). cmp y p.0.start ≡ Less) post → past cmp y (pre ++ post) ≡ post
  past_of y [] post l h = (none_up_to y post h).1
  past_of y (p ∷ pre) post l h =
      let q : is_lt (cmp y p.0.start) ≡ false = ap is_lt (o.antisymm y p.0.start) ∙ not_lt_of_le (cmp p.0.start y) (ap is_gt l.0) in
      ap (λ b. cond b (p ∷ past cmp y (pre ++ post)) (past cmp y (pre ++ post))) q ∙ past_of y pre post l.1 h

module _ {K V : Type 0} {cmp : K → K → Ordering} (o : IsTotalOrder cmp) (eq : V → V → Bool) (e : IsEquivalence eq) where
  abbrev S : Shape (Range K) (Option K) V
  S = shape cmp eq

  places : IsTotalOrder (place_cmp cmp)
  places = place_total o

  pub rises : (a : Range K × V) (ps : List (Range K × V)) → IsSpaced S (a ∷ ps) → Every (λ (b : Range K × V). cmp a.0.start b.0.start ≡ Less) ps
  rises a ps c = Every-map _ _ ps (λ b h. lt_le_trans o a.0.start a.0.end b.0.start c.0 h.before) (apart_from_all S places a ps c)

  -- of a spaced list, those before a pair start before it
  pub starts_below : (us : List (Range K × V)) (b : Range K × V) (ws : List (Range K × V)) → IsSpaced S (us ++ b ∷ ws) → Every (λ (u : Range K × V). cmp u.0.start b.0.start ≡ Less) us
  starts_below [] b ws c = tt
  starts_below (u ∷ us) b ws c = ((Every-right _ us (b ∷ ws) (rises u (us ++ b ∷ ws) c)).0, starts_below us b ws c.2)

  pub all_full : (ps : List (Range K × V)) → IsSpaced S ps → Every (λ (p : Range K × V). cmp p.0.start p.0.end ≡ Less) ps
  all_full [] c = tt
  all_full (a ∷ ps) c = (c.0, all_full ps c.2)

  -- a spaced list falls in two at any key
  pub split : (y : K) (ps : List (Range K × V)) → IsSpaced S ps → (before cmp y ps ++ from cmp y ps ≡ ps) × Every (λ (p : Range K × V). cmp p.0.start y ≡ Less) (before cmp y ps) × Every (λ (p : Range K × V). is_gt (cmp y p.0.start) ≡ false) (from cmp y ps)
  split y [] c = (refl, tt, tt)
  split y (a ∷ ps) c = go (split y ps c.2)
    where
      go : (before cmp y ps ++ from cmp y ps ≡ ps) × Every (λ (p : Range K × V). cmp p.0.start y ≡ Less) (before cmp y ps) × Every (λ (p : Range K × V). is_gt (cmp y p.0.start) ≡ false) (from cmp y ps)
          → (before cmp y (a ∷ ps) ++ from cmp y (a ∷ ps) ≡ a ∷ ps) × Every (λ (p : Range K × V). cmp p.0.start y ≡ Less) (before cmp y (a ∷ ps)) × Every (λ (p : Range K × V). is_gt (cmp y p.0.start) ≡ false) (from cmp y (a ∷ ps))
      go again = elim (lt_or_le o a.0.start y) [
        | inl l ↦
            let q = below_test o y a l in
            let bq : before cmp y (a ∷ ps) ≡ a ∷ before cmp y ps = λ i. cond (not (q i)) (a ∷ before cmp y ps) (before cmp y ps) in
            let fq : from cmp y (a ∷ ps) ≡ from cmp y ps = λ i. cond (q i) (a ∷ from cmp y ps) (from cmp y ps) in
            ((λ i. bq i ++ fq i) ∙ ap (λ xs. a ∷ xs) again.0, subst (Every (λ (p : Range K × V). cmp p.0.start y ≡ Less)) (sym bq) (l, again.1), subst (Every (λ (p : Range K × V). is_gt (cmp y p.0.start) ≡ false)) (sym fq) again.2)
        | inr k ↦
            let above : Every (λ (p : Range K × V). is_gt (cmp y p.0.start) ≡ false) (a ∷ ps) = (k, Every-map _ _ ps (λ p h. lt_le o y p.0.start (le_lt_trans o y a.0.start p.0.start k h)) (rises a ps c)) in
            let both = all_from o y (a ∷ ps) above in
            ((λ i. both.0 i ++ both.1 i), subst (Every (λ (p : Range K × V). cmp p.0.start y ≡ Less)) (sym both.0) tt, subst (Every (λ (p : Range K × V). is_gt (cmp y p.0.start) ≡ false)) (sym both.1) above)
      ]

  pub split_past : (y : K) (ps : List (Range K × V)) → IsSpaced S ps → (up_to cmp y ps ++ past cmp y ps ≡ ps) × Every (λ (p : Range K × V). is_gt (cmp p.0.start y) ≡ false) (up_to cmp y ps) × Every (λ (p : Range K × V). cmp y p.0.start ≡ Less) (past cmp y ps)
  split_past y [] c = (refl, tt, tt)
  split_past y (a ∷ ps) c = go (split_past y ps c.2)
    where
      go : (up_to cmp y ps ++ past cmp y ps ≡ ps) × Every (λ (p : Range K × V). is_gt (cmp p.0.start y) ≡ false) (up_to cmp y ps) × Every (λ (p : Range K × V). cmp y p.0.start ≡ Less) (past cmp y ps)
          → (up_to cmp y (a ∷ ps) ++ past cmp y (a ∷ ps) ≡ a ∷ ps) × Every (λ (p : Range K × V). is_gt (cmp p.0.start y) ≡ false) (up_to cmp y (a ∷ ps)) × Every (λ (p : Range K × V). cmp y p.0.start ≡ Less) (past cmp y (a ∷ ps))
      go again = elim (lt_or_le o y a.0.start) [
        | inl l ↦
            let above : Every (λ (p : Range K × V). cmp y p.0.start ≡ Less) (a ∷ ps) = (l, Every-map _ _ ps (λ p h. o.trans y a.0.start p.0.start l h) (rises a ps c)) in
            let both = none_up_to o y (a ∷ ps) above in
            ((λ i. both.0 i ++ both.1 i), subst (Every (λ (p : Range K × V). is_gt (cmp p.0.start y) ≡ false)) (sym both.0) tt, subst (Every (λ (p : Range K × V). cmp y p.0.start ≡ Less)) (sym both.1) above)
        | inr k ↦
            let q : is_lt (cmp y a.0.start) ≡ false = ap is_lt (o.antisymm y a.0.start) ∙ not_lt_of_le (cmp a.0.start y) k in
            let bq : up_to cmp y (a ∷ ps) ≡ a ∷ up_to cmp y ps = λ i. cond (not (q i)) (a ∷ up_to cmp y ps) (up_to cmp y ps) in
            let fq : past cmp y (a ∷ ps) ≡ past cmp y ps = λ i. cond (q i) (a ∷ past cmp y ps) (past cmp y ps) in
            ((λ i. bq i ++ fq i) ∙ ap (λ xs. a ∷ xs) again.0, subst (Every (λ (p : Range K × V). is_gt (cmp p.0.start y) ≡ false)) (sym bq) (k, again.1), subst (Every (λ (p : Range K × V). cmp y p.0.start ≡ Less)) (sym fq) again.2)
      ]
