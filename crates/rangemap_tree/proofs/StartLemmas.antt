-- What is left of pairs of which those that start within a range go, and others come.
use Rattle.std.proofs.Common.{◌≡◌, List, [], ◌∷◌, ◌++◌, Bool, true, false, cond, not, ◌&&◌, Option, Some, None, is_some, filter, refl, sym, ap, ◌∙◌, append_assoc, append-nil, true≢false, Ordering, Less, Equal, Greater, is_eq, is_lt, is_le}
use Rattle.std.specs.BTreeMap.Range.{range_contains}
use Rattle.std.specs.declared.ops.Bound.TheVariants.{Included, Excluded}
use Rattle.std.specs.declared.ops.Range.{Range}
use Rattle.std.specs.Ordering.{ordering_reverse}
use Rattle.std.specs.Cmp.{IsTotalOrder}
use Rattle.rangemap_tree.specs.Starts.{before, from, past, without, recut, piece_list, with_piece, IsCutThere, IsKeyed, IsNewAt, IsRecut}
use Rattle.rangemap_tree.proofs.FilterLemmas.{filter_append, filter_both, filter_no}

pub turned : {K : Type 0} {cmp : K → K → Ordering} → IsTotalOrder cmp → (a b : K) → cmp a b ≡ Equal → cmp b a ≡ Equal
turned o a b h = o.antisymm b a ∙ ap ordering_reverse h

-- what two tests say of one key, where the first is of a lesser one
before_lesser : (b c : Bool) → (b ≡ true → c ≡ true) → (not b && not c) ≡ not c
before_lesser true true h = refl
before_lesser true false h = absurd (true≢false (sym (h refl)))
before_lesser false c h = refl

past_greater : (r : Ordering) (c : Bool) → (is_le r ≡ true → c ≡ true) → (is_lt r && not c) ≡ false
past_greater Less true h = refl
past_greater Less false h = absurd (true≢false (sym (h refl)))
past_greater Equal c h = refl
past_greater Greater c h = refl

not_and_itself : (b : Bool) → (not b && b) ≡ false
not_and_itself true = refl
not_and_itself false = refl

past_is_from : (r : Ordering) → (is_lt r && is_le r) ≡ is_lt r
past_is_from Less = refl
past_is_from Equal = refl
past_is_from Greater = refl

before_stays : (r : Ordering) (b : Bool) → (not (is_le r) && not (is_lt r && not b)) ≡ not (is_le r)
before_stays Less b = refl
before_stays Equal b = refl
before_stays Greater b = refl

past_from_end : (r : Ordering) (b : Bool) → (b ≡ true → r ≡ Less) → (is_lt r && not (is_lt r && not b)) ≡ b
past_from_end Less true h = refl
past_from_end Less false h = refl
past_from_end Equal true h = let q : Equal ≡ Less = h refl in cc
past_from_end Equal false h = refl
past_from_end Greater true h = let q : Greater ≡ Less = h refl in cc
past_from_end Greater false h = refl

outside_before : (b c : Bool) → (b ≡ true → c ≡ true) → (not b && not (c && not b)) ≡ not c
outside_before true true h = refl
outside_before true false h = absurd (true≢false (sym (h refl)))
outside_before false true h = refl
outside_before false false h = refl

outside_past : (r : Ordering) (c : Bool) → (is_lt r && not (c && not (is_le r))) ≡ is_lt r
outside_past Less true = refl
outside_past Less false = refl
outside_past Equal c = refl
outside_past Greater c = refl

before_start_stays : (b c : Bool) → (not c && not (c && not b)) ≡ not c
before_start_stays b true = refl
before_start_stays b false = refl

from_start_to_end : (b c : Bool) → (b ≡ true → c ≡ true) → (c && not (c && not b)) ≡ b
from_start_to_end true true h = refl
from_start_to_end false true h = refl
from_start_to_end true false h = absurd (true≢false (sym (h refl)))
from_start_to_end false false h = refl

before_not_at : (r : Ordering) → (not (is_le r) && not (is_eq r)) ≡ not (is_le r)
before_not_at Less = refl
before_not_at Equal = refl
before_not_at Greater = refl

past_not_at : (r : Ordering) → (is_lt r && not (is_eq r)) ≡ is_lt r
past_not_at Less = refl
past_not_at Equal = refl
past_not_at Greater = refl

pub recut_last : {K V : Type 0} (g : Range K) (us : List (Range K × V)) (a : Range K × V) → recut (Some g) (us ++ a ∷ []) ≡ us ++ (g, a.1) ∷ []
recut_last g [] a = refl
recut_last g (u ∷ []) a = refl
recut_last g (u ∷ v ∷ us) a = ap (λ ps. u ∷ ps) (recut_last g (v ∷ us) a)

module _ {K : Type 0} {cmp : K → K → Ordering} (o : IsTotalOrder cmp) (s t : K) (below : cmp s t ≡ Less) where
  pub lower : (y : K) (r : Ordering) → cmp t y ≡ r → is_le r ≡ true → cmp s y ≡ Less
  lower y Less e h = o.trans s t y below e
  lower y Equal e h = o.antisymm s y ∙ ap ordering_reverse (o.congr y t s (turned o t y e) ∙ o.antisymm t s ∙ ap ordering_reverse below)
  lower y Greater e h = absurd (true≢false (sym h))

  pub from_lower : (y : K) → is_le (cmp t y) ≡ true → is_le (cmp s y) ≡ true
  from_lower y h = ap is_le (lower y (cmp t y) refl h)

module _ {K V : Type 0} {cmp : K → K → Ordering} (o : IsTotalOrder cmp) where
  pub before_tied : (x y : K) → cmp x y ≡ Equal → (ps : List (Range K × V)) → before cmp x ps ≡ before cmp y ps
  before_tied x y h ps = λ i. filter (λ (p : Range K × V). not (is_le (o.congr x y p.0.start h i))) ps

  pub past_tied : (x y : K) → cmp x y ≡ Equal → (ps : List (Range K × V)) → past cmp x ps ≡ past cmp y ps
  past_tied x y h ps = λ i. filter (λ (p : Range K × V). is_lt (o.congr x y p.0.start h i)) ps

  -- ---- at one key

  from_before : (u : K) (ps : List (Range K × V)) → from cmp u (before cmp u ps) ≡ []
  from_before u ps = filter_both _ _ (λ (p : Range K × V). false) (λ p. not_and_itself (is_le (cmp u p.0.start))) ps ∙ filter_no ps

  from_past : (u : K) (ps : List (Range K × V)) → from cmp u (past cmp u ps) ≡ past cmp u ps
  from_past u ps = filter_both _ _ (λ (p : Range K × V). is_lt (cmp u p.0.start)) (λ p. past_is_from (cmp u p.0.start)) ps

  -- where none starts at u, what starts from it starts later
  pub from_is_past : (u : K) (ps : List (Range K × V)) → before cmp u ps ++ past cmp u ps ≡ ps → from cmp u ps ≡ past cmp u ps
  from_is_past u ps h =
      ap (from cmp u) (sym h) ∙ filter_append (λ (p : Range K × V). is_le (cmp u p.0.start)) (before cmp u ps) (past cmp u ps)
      ∙ (λ i. from_before u ps i ++ from_past u ps i)

  without_before : (u : K) (ps : List (Range K × V)) → without cmp u (before cmp u ps) ≡ before cmp u ps
  without_before u ps = filter_both _ _ (λ (p : Range K × V). not (is_le (cmp u p.0.start))) (λ p. before_not_at (cmp u p.0.start)) ps

  without_past : (u : K) (ps : List (Range K × V)) → without cmp u (past cmp u ps) ≡ past cmp u ps
  without_past u ps = filter_both _ _ (λ (p : Range K × V). is_lt (cmp u p.0.start)) (λ p. past_not_at (cmp u p.0.start)) ps

  -- a pair that ties with u put in and taken out
  pub undone : (u : K) (p : Range K × V) (ps : List (Range K × V)) → cmp u p.0.start ≡ Equal → before cmp u ps ++ past cmp u ps ≡ ps → without cmp u (before cmp u ps ++ p ∷ past cmp u ps) ≡ ps
  undone u p ps t h =
      filter_append (λ (q : Range K × V). not (is_eq (cmp u q.0.start))) (before cmp u ps) (p ∷ past cmp u ps)
      ∙ (λ i. without_before u ps i ++ cond (not (is_eq (t i))) (p ∷ without_past u ps i) (without_past u ps i))
      ∙ h

  -- a piece put in and taken out, or none put in
  pub undone_piece : (x : K) (piece : Option (K × (Range K × V))) (ps : List (Range K × V)) → IsNewAt cmp x piece ps → is_some piece ≡ true → without cmp x (with_piece cmp piece ps) ≡ ps
  undone_piece x None ps n h = absurd (true≢false (sym h))
  undone_piece x (Some q) ps n h =
      (λ i. without cmp x (before_tied q.0 x n.1 ps i ++ q.1 ∷ past_tied q.0 x n.1 ps i))
      ∙ undone x q.1 ps (o.congr x q.0 q.1.0.start (turned o q.0 x n.1) ∙ n.0) n.2

  pub no_piece : (piece : Option (K × (Range K × V))) (ps : List (Range K × V)) → is_some piece ≡ false → with_piece cmp piece ps ≡ ps
  no_piece None ps h = refl
  no_piece (Some q) ps h = absurd (true≢false h)

  -- ---- at two keys

  module _ (s t : K) (below : cmp s t ≡ Less) where
    before_s_of_before : (ps : List (Range K × V)) → before cmp s (before cmp t ps) ≡ before cmp s ps
    before_s_of_before ps = filter_both _ _ (λ (p : Range K × V). not (is_le (cmp s p.0.start))) (λ p. before_lesser (is_le (cmp t p.0.start)) (is_le (cmp s p.0.start)) (from_lower o s t below p.0.start)) ps

    before_s_of_past : (ps : List (Range K × V)) → before cmp s (past cmp t ps) ≡ []
    before_s_of_past ps = filter_both _ _ (λ (p : Range K × V). false) (λ p. past_greater (cmp t p.0.start) (is_le (cmp s p.0.start)) (from_lower o s t below p.0.start)) ps ∙ filter_no ps

    module _ (piece : Option (K × (Range K × V))) (old : List (Range K × V)) (new_there : IsNewAt cmp t piece old) where
      before_with : before cmp s (with_piece cmp piece old) ≡ before cmp s old
      before_with = elim piece as (λ piece. IsNewAt cmp t piece old → before cmp s (with_piece cmp piece old) ≡ before cmp s old) [
        | None ↦ λ n. refl
        | Some q ↦ λ n.
            let at : cmp s q.1.0.start ≡ Less = lower o s t below q.1.0.start (cmp t q.1.0.start) refl (ap is_le (o.congr t q.0 q.1.0.start (turned o q.0 t n.1) ∙ n.0)) in
            filter_append (λ (p : Range K × V). not (is_le (cmp s p.0.start))) (before cmp q.0 old) (q.1 ∷ past cmp q.0 old)
            ∙ (λ i. before cmp s (before_tied q.0 t n.1 old i) ++ cond (not (is_le (at i))) (q.1 ∷ before cmp s (past_tied q.0 t n.1 old i)) (before cmp s (past_tied q.0 t n.1 old i)))
            ∙ (λ i. before_s_of_before old i ++ before_s_of_past old i) ∙ append-nil (before cmp s old)
      ] new_there

      from_with : from cmp t (with_piece cmp piece old) ≡ piece_list piece ++ from cmp t old
      from_with = elim piece as (λ piece. IsNewAt cmp t piece old → from cmp t (with_piece cmp piece old) ≡ piece_list piece ++ from cmp t old) [
        | None ↦ λ n. refl
        | Some q ↦ λ n.
            let at : cmp t q.1.0.start ≡ Equal = o.congr t q.0 q.1.0.start (turned o q.0 t n.1) ∙ n.0 in
            filter_append (λ (p : Range K × V). is_le (cmp t p.0.start)) (before cmp q.0 old) (q.1 ∷ past cmp q.0 old)
            ∙ (λ i. from cmp t (before_tied q.0 t n.1 old i) ++ cond (is_le (at i)) (q.1 ∷ from cmp t (past_tied q.0 t n.1 old i)) (from cmp t (past_tied q.0 t n.1 old i)))
            ∙ (λ i. from_before t old i ++ q.1 ∷ from_past t old i)
            ∙ ap (λ ps. q.1 ∷ ps) (sym (from_is_past t old n.2))
      ] new_there

      -- what an insert leaves
      pub replaced : (m : Range K × V) → cmp s m.0.start ≡ Equal
          → filter (λ p. not (range_contains cmp (Excluded s) (Excluded t) p.0.start)) (before cmp s (with_piece cmp piece old) ++ m ∷ past cmp s (with_piece cmp piece old)) ≡ before cmp s old ++ m ∷ (piece_list piece ++ from cmp t old)
      replaced m tie =
          let X : List (Range K × V) = with_piece cmp piece old in
          filter_append (λ (p : Range K × V). not (range_contains cmp (Excluded s) (Excluded t) p.0.start)) (before cmp s (with_piece cmp piece old)) (m ∷ past cmp s (with_piece cmp piece old))
          ∙ (λ i. filter_both (λ (p : Range K × V). not (range_contains cmp (Excluded s) (Excluded t) p.0.start)) (λ (p : Range K × V). not (is_le (cmp s p.0.start))) (λ (p : Range K × V). not (is_le (cmp s p.0.start))) (λ p. before_stays (cmp s p.0.start) (is_le (cmp t p.0.start))) (with_piece cmp piece old) i
          ++ cond (not (is_lt (tie i) && not (is_le (cmp t m.0.start))))
          (m ∷ filter_both (λ (p : Range K × V). not (range_contains cmp (Excluded s) (Excluded t) p.0.start)) (λ (p : Range K × V). is_lt (cmp s p.0.start)) (λ (p : Range K × V). is_le (cmp t p.0.start)) (λ p. past_from_end (cmp s p.0.start) (is_le (cmp t p.0.start)) (lower o s t below p.0.start (cmp t p.0.start) refl)) (with_piece cmp piece old) i)
          (filter_both (λ (p : Range K × V). not (range_contains cmp (Excluded s) (Excluded t) p.0.start)) (λ (p : Range K × V). is_lt (cmp s p.0.start)) (λ (p : Range K × V). is_le (cmp t p.0.start)) (λ p. past_from_end (cmp s p.0.start) (is_le (cmp t p.0.start)) (lower o s t below p.0.start (cmp t p.0.start) refl)) (with_piece cmp piece old) i))
          ∙ (λ i. before_with i ++ m ∷ from_with i)

      -- what a remove leaves
      pub erased : before cmp s old ++ from cmp s old ≡ old → filter (λ p. not (range_contains cmp (Included s) (Excluded t) p.0.start)) (with_piece cmp piece old) ≡ before cmp s old ++ (piece_list piece ++ from cmp t old)
      erased split = elim piece as (λ piece. IsNewAt cmp t piece old → filter (λ (p : Range K × V). not (range_contains cmp (Included s) (Excluded t) p.0.start)) (with_piece cmp piece old) ≡ before cmp s old ++ (piece_list piece ++ from cmp t old)) [
        | None ↦ λ n.
            ap (filter (λ (p : Range K × V). not (range_contains cmp (Included s) (Excluded t) p.0.start))) (sym split)
            ∙ filter_append (λ (p : Range K × V). not (range_contains cmp (Included s) (Excluded t) p.0.start)) (before cmp s old) (from cmp s old)
            ∙ (λ i. filter_both (λ (p : Range K × V). not (range_contains cmp (Included s) (Excluded t) p.0.start)) (λ (p : Range K × V). not (is_le (cmp s p.0.start))) (λ (p : Range K × V). not (is_le (cmp s p.0.start))) (λ p. before_start_stays (is_le (cmp t p.0.start)) (is_le (cmp s p.0.start))) old i
            ++ filter_both (λ (p : Range K × V). not (range_contains cmp (Included s) (Excluded t) p.0.start)) (λ (p : Range K × V). is_le (cmp s p.0.start)) (λ (p : Range K × V). is_le (cmp t p.0.start)) (λ p. from_start_to_end (is_le (cmp t p.0.start)) (is_le (cmp s p.0.start)) (from_lower o s t below p.0.start)) old i)
        | Some q ↦ λ n.
            let at : cmp t q.1.0.start ≡ Equal = o.congr t q.0 q.1.0.start (turned o q.0 t n.1) ∙ n.0 in
            filter_append (λ (p : Range K × V). not (range_contains cmp (Included s) (Excluded t) p.0.start)) (before cmp q.0 old) (q.1 ∷ past cmp q.0 old)
            ∙ (λ i. filter (λ (p : Range K × V). not (range_contains cmp (Included s) (Excluded t) p.0.start)) (before_tied q.0 t n.1 old i)
            ++ filter (λ (p : Range K × V). not (range_contains cmp (Included s) (Excluded t) p.0.start)) (q.1 ∷ past_tied q.0 t n.1 old i))
            ∙ (λ i. filter_both (λ (p : Range K × V). not (range_contains cmp (Included s) (Excluded t) p.0.start)) (λ (p : Range K × V). not (is_le (cmp t p.0.start))) (λ (p : Range K × V). not (is_le (cmp s p.0.start))) (λ p. outside_before (is_le (cmp t p.0.start)) (is_le (cmp s p.0.start)) (from_lower o s t below p.0.start)) old i
            ++ cond (kept q.1.0.start (ap is_le at) i)
            (q.1 ∷ filter_both (λ (p : Range K × V). not (range_contains cmp (Included s) (Excluded t) p.0.start)) (λ (p : Range K × V). is_lt (cmp t p.0.start)) (λ (p : Range K × V). is_lt (cmp t p.0.start)) (λ p. outside_past (cmp t p.0.start) (is_le (cmp s p.0.start))) old i)
            (filter_both (λ (p : Range K × V). not (range_contains cmp (Included s) (Excluded t) p.0.start)) (λ (p : Range K × V). is_lt (cmp t p.0.start)) (λ (p : Range K × V). is_lt (cmp t p.0.start)) (λ p. outside_past (cmp t p.0.start) (is_le (cmp s p.0.start))) old i))
            ∙ ap (λ ps. before cmp s old ++ q.1 ∷ ps) (sym (from_is_past t old n.2))
      ] new_there
        where
          kept_by : (c b : Bool) → b ≡ true → not (c && not b) ≡ true
          kept_by true true h = refl
          kept_by false true h = refl
          kept_by c false h = absurd (true≢false (sym h))

          kept : (y : K) → is_le (cmp t y) ≡ true → not (is_le (cmp s y) && not (is_le (cmp t y))) ≡ true
          kept y h = kept_by (is_le (cmp s y)) (is_le (cmp t y)) h

  -- the cut of the last pair before x, made at the end
  pub recut_is : (x : K) (cut : Option (Range K)) (old mid new rest : List (Range K × V)) → IsCutThere cmp x cut old → mid ≡ before cmp x old ++ rest → IsRecut cmp cut mid new → new ≡ recut cut (before cmp x old) ++ rest
  recut_is x None old mid new rest h m r = r ∙ m
  recut_is x (Some g) old mid new rest h m r =
      r h.0 rest h.1 (m ∙ ap (λ ps. ps ++ rest) h.2 ∙ grouped h.0 h.1) h.3 ∙ sym (ap (λ ps. recut (Some g) ps ++ rest) h.2 ∙ ap (λ ps. ps ++ rest) (recut_last g h.0 h.1) ∙ grouped h.0 (g, h.1.1))
    where
      grouped : (us : List (Range K × V)) (a : Range K × V) → (us ++ a ∷ []) ++ rest ≡ us ++ a ∷ rest
      grouped us a = simp append_assoc

-- a piece that is new there has its own key
pub keyed_there : {K V : Type 0} (cmp : K → K → Ordering) (x : K) (piece : Option (K × (Range K × V))) (ps : List (Range K × V)) → IsNewAt cmp x piece ps → IsKeyed cmp piece
keyed_there cmp x None ps h = tt
keyed_there cmp x (Some q) ps h = h.0
