-- What lookups, an insert and a remove make of a canonical list of half-open ranges, by the starts of these.
use Rattle.std.proofs.Common.{arith, suc, ◌≡◌, ◌+◌, ◌≤◌, List, [], ◌∷◌, ◌++◌, Bool, true, false, cond, ◌&&◌, Option, Some, None, IfSome, filter, find, refl, sym, ap, ◌∙◌, subst, true≢false, append_assoc, Ordering, Less, Equal, is_lt, is_le, is_gt, length, length-append}
use Rattle.std.specs.Cmp.{IsTotalOrder, IsEquivalence, tied_itself}
use Rattle.std.specs.Option.{unwrap_or}
use Rattle.std.specs.declared.ops.Range.{Range}
use Rattle.rangemap_core.specs.Ranges.{half_open, IsCanonical, IsNewest, IsStorable, IsCanonOf, covering, changed, value_at, erase}
use Rattle.rangemap_core.specs.engine.EndpointKinds.{half_open_placed}
use Rattle.rangemap_core.specs.engine.PlacedKinds.{place_total}
use Rattle.rangemap_core.specs.engine.Shape.{IsPlaceChange, IsSpaced}
use Rattle.rangemap_core.specs.engine.Stretch.{Every, IsLeftPart, IsRightPart, middle_of}
use Rattle.rangemap_core.proofs.PlaceLemmas.{to_spaced, to_newest, to_changed}
use Rattle.rangemap_core.proofs.StoredLemmas.{all_storable}
use Rattle.rangemap_core.proofs.JoinLemmas.{joined_spaced, joined_changes}
use Rattle.rangemap_core.proofs.ListLemmas.{Every-map, Every-right}
use Rattle.rangemap_core.proofs.InsertPartLemmas.{before_first}
use Rattle.rangemap_core.proofs.PlaceOrderLemmas.{le_trans, lt_le_trans, le_lt_trans}
use Rattle.rangemap_tree.specs.Starts.{before, behind_end, from, past, up_to, recut, piece_list, IsCutThere, IsNewAt}
use Rattle.rangemap_tree.specs.Sides.{shape, IsLeft, IsRight}
use Rattle.rangemap_tree.proofs.StartLemmas.{from_lower}
use Rattle.rangemap_tree.proofs.SplitLemmas.{gt_not_le, le_of, not_lt_of_le, split, split_past}
use Rattle.rangemap_tree.proofs.SideLemmas.{unmet}

find_skip : {X : Type 0} (f : X → Bool) (xs ys : List X) → Every (λ x. f x ≡ false) xs → find f (xs ++ ys) ≡ find f ys
find_skip f [] ys h = refl
find_skip f (x ∷ xs) ys h = ap (λ b. cond b (Some x) (find f (xs ++ ys))) h.0 ∙ find_skip f xs ys h.1

find_none : {X : Type 0} (f : X → Bool) (xs : List X) → Every (λ x. f x ≡ false) xs → find f xs ≡ None
find_none f [] h = refl
find_none f (x ∷ xs) h = ap (λ b. cond b (Some x) (find f xs)) h.0 ∙ find_none f xs h.1

and_no : (b : Bool) → (b && false) ≡ false
and_no true = refl
and_no false = refl

recut_length : {K V : Type 0} (cut : Option (Range K)) (ps : List (Range K × V)) → length (recut cut ps) ≡ length ps
recut_length None ps = refl
recut_length (Some g) [] = refl
recut_length (Some g) (p ∷ []) = refl
recut_length (Some g) (p ∷ q ∷ ps) = let again = recut_length (Some g) (q ∷ ps) in omega (arith, again)

piece_length : {K V : Type 0} (piece : Option (K × (Range K × V))) → length (piece_list piece) ≤ 1
piece_length None = omega arith
piece_length (Some q) = omega arith

filter_shorter : {X : Type 0} (f g : X → Bool) → ((x : X) → f x ≡ true → g x ≡ true) → (xs : List X) → length (filter f xs) ≤ length (filter g xs)
filter_shorter f g h [] = omega arith
filter_shorter f g h (x ∷ xs) = go (filter_shorter f g h xs) (f x) (g x) (h x)
  where
    go : length (filter f xs) ≤ length (filter g xs) → (b c : Bool) → (b ≡ true → c ≡ true) → length (cond b (x ∷ filter f xs) (filter f xs)) ≤ length (cond c (x ∷ filter g xs) (filter g xs))
    go again true true k = omega (arith, again)
    go again true false k = absurd (true≢false (sym (k refl)))
    go again false true k = omega (arith, again)
    go again false false k = again

module _ {K V : Type 0} (cmp : K → K → Ordering) (eq : V → V → Bool) (ps : List (Range K × V)) (r : Range K) where
  -- what is said of the list that a change makes
  pub record IsChanged (value : Option V) (new : List (Range K × V)) : Type 0 where
    pub canonical : IsCanonOf (half_open cmp) eq (changed (half_open cmp) (value_at (half_open cmp) ps) r value) new
    pub newest : IfSome value (λ v. IsNewest (half_open cmp) r v new)
    pub growth : length new ≤ length ps + suc (length (middle_of r value))
    pub growth_where_all_are_equal : ((v w : V) → eq v w ≡ true) → length new ≤ length ps + 1

  -- and of the range in its middle
  pub record IsChange (value : Option V) (cut : Option (Range K)) (piece : Option (K × (Range K × V))) (m : Range K) : Type 0 where
    pub full : cmp m.start m.end ≡ Less
    pub cut_there : IsCutThere cmp m.start cut ps
    pub new_there : IsNewAt cmp m.end piece ps
    pub behind : Every (λ p. is_gt (cmp m.end p.0.start) ≡ false) (behind_end cmp value r.end ps)
    pub made : IsChanged value (recut cut (before cmp m.start ps) ++ (middle_of m value ++ (piece_list piece ++ from cmp m.end ps)))

module _ {K V : Type 0} {cmp : K → K → Ordering} (o : IsTotalOrder cmp) (eq : V → V → Bool) (e : IsEquivalence eq) (ps : List (Range K × V)) (c : IsCanonical (half_open cmp) eq ps) where
  spaced : IsSpaced (shape cmp eq) ps
  spaced = to_spaced (half_open_placed o) eq ps c

  pub in_order : (x : K) → before cmp x ps ++ from cmp x ps ≡ ps
  in_order x = (split o eq e x ps spaced).0

  -- ---- lookups

  module _ (x : K) where
    parts : (up_to cmp x ps ++ past cmp x ps ≡ ps) × Every (λ (p : Range K × V). is_gt (cmp p.0.start x) ≡ false) (up_to cmp x ps) × Every (λ (p : Range K × V). cmp x p.0.start ≡ Less) (past cmp x ps)
    parts = split_past o eq e x ps spaced

    past_hold : Every (λ (p : Range K × V). (half_open cmp).holds p.0 x ≡ false) (past cmp x ps)
    past_hold = Every-map _ _ (past cmp x ps) (λ p h. ap (λ b. b && is_lt (cmp x p.0.end)) (ap is_le (o.antisymm p.0.start x) ∙ gt_not_le (cmp x p.0.start) h)) parts.2

    pub looked_none : up_to cmp x ps ≡ [] → covering (half_open cmp) ps x ≡ None
    looked_none h =
        ap (λ qs. covering (half_open cmp) qs x) (sym parts.0 ∙ ap (λ qs. qs ++ past cmp x ps) h)
        ∙ find_none (λ (p : Range K × V). (half_open cmp).holds p.0 x) (past cmp x ps) past_hold

    pub looked : (us : List (Range K × V)) (p : Range K × V) → up_to cmp x ps ≡ us ++ p ∷ [] → covering (half_open cmp) ps x ≡ cond (is_lt (cmp x p.0.end)) (Some p) None
    looked us p is =
        ap (λ qs. covering (half_open cmp) qs x) whole
        ∙ find_skip (λ (q : Range K × V). (half_open cmp).holds q.0 x) us (p ∷ past cmp x ps) us_hold
        ∙ (λ i. cond (starts i && is_lt (cmp x p.0.end)) (Some p) (find_none (λ (q : Range K × V). (half_open cmp).holds q.0 x) (past cmp x ps) past_hold i))
      where
        whole : ps ≡ us ++ p ∷ past cmp x ps
        whole = sym parts.0 ∙ ap (λ qs. qs ++ past cmp x ps) is ∙ (simp append_assoc)

        up : is_gt (cmp p.0.start x) ≡ false
        up = (Every-right (λ (q : Range K × V). is_gt (cmp q.0.start x) ≡ false) us (p ∷ []) (subst (Every (λ (q : Range K × V). is_gt (cmp q.0.start x) ≡ false)) is parts.1)).0

        starts : is_le (cmp p.0.start x) ≡ true
        starts = le_of (cmp p.0.start x) up

        us_hold : Every (λ (q : Range K × V). (half_open cmp).holds q.0 x ≡ false) us
        us_hold = Every-map _ _ us (λ q h. ap (λ b. is_le (cmp q.0.start x) && b) (ap is_lt (o.antisymm x q.0.end) ∙ not_lt_of_le (cmp q.0.end x) (le_trans o q.0.end p.0.start x h.before up)) ∙ and_no (is_le (cmp q.0.start x)))
            (before_first (shape cmp eq) (place_total o) e us (past cmp x ps) p (subst (IsSpaced (shape cmp eq)) whole spaced))

  -- ---- changes

  storables : (qs : List (Range K × V)) → IsSpaced (shape cmp eq) qs → Every (λ (a : Range K × V). IsStorable (half_open cmp) a.0) qs
  storables [] h = tt
  storables (q ∷ qs) h = (record { start_is_key = tt; end_is_key = tt; non_empty = h.0 }, storables qs h.2)

  module _ (r : Range K) (full : cmp r.start r.end ≡ Less) where
    stored : IsStorable (half_open cmp) r
    stored = record { start_is_key = tt; end_is_key = tt; non_empty = full }

    -- what a change makes of what stays on either side of its middle
    module _ (m : Range K) (value : Option V) (front back : List (Range K × V)) (left : IsLeftPart (shape cmp eq) ps front r m value) (right : IsRightPart (shape cmp eq) ps back r m value) where
      new_spaced : IsSpaced (shape cmp eq) (front ++ (middle_of m value ++ back))
      new_spaced = joined_spaced (shape cmp eq) (place_total o) e ps front back r m value left right full

      changes : IsPlaceChange (shape cmp eq) ps (front ++ (middle_of m value ++ back)) r value
      changes = joined_changes (shape cmp eq) (place_total o) e ps front back r m value left right full

      made : IsCanonOf (half_open cmp) eq (changed (half_open cmp) (value_at (half_open cmp) ps) r value) (front ++ (middle_of m value ++ back))
      made = to_changed (half_open_placed o) eq ps (front ++ (middle_of m value ++ back)) r (all_storable _ eq ps c) (storables _ new_spaced) stored new_spaced e value changes

      made_newest : IfSome value (λ v. IsNewest (half_open cmp) r v (front ++ (middle_of m value ++ back)))
      made_newest = to_newest (half_open_placed o) eq ps (front ++ (middle_of m value ++ back)) r (all_storable _ eq ps c) (storables _ new_spaced) stored new_spaced value changes

    made_length : (m : Range K) → cmp m.start m.end ≡ Less → (cut : Option (Range K)) (middle : List (Range K × V)) (piece : Option (K × (Range K × V))) → length (recut cut (before cmp m.start ps) ++ (middle ++ (piece_list piece ++ from cmp m.end ps))) ≤ length ps + length middle + length (piece_list piece)
    made_length m m_full cut middle piece =
        let l1 = length-append (recut cut (before cmp m.start ps)) (middle ++ (piece_list piece ++ from cmp m.end ps)) in
        let l2 = recut_length cut (before cmp m.start ps) in
        let l3 = length-append middle (piece_list piece ++ from cmp m.end ps) in
        let l4 = length-append (piece_list piece) (from cmp m.end ps) in
        let l5 = filter_shorter (λ (p : Range K × V). is_le (cmp m.end p.0.start)) (λ (p : Range K × V). is_le (cmp m.start p.0.start)) (λ p. from_lower o m.start m.end m_full p.0.start) ps in
        let l6 = length-append (before cmp m.start ps) (from cmp m.start ps) in
        let l7 = ap length (in_order m.start) in
        omega (arith, l1, l2, l3, l4, l5, l6, l7)

    middle_length : (m : Range K) (value : Option V) → length (middle_of m value) ≡ length (middle_of r value)
    middle_length m None = refl
    middle_length m (Some v) = refl

    -- where all values are equal, a change with a value leaves no piece
    one_more : (m : Range K) (value : Option V) (piece : Option (K × (Range K × V))) → IfSome value (λ _. piece ≡ None) → length (middle_of m value) + length (piece_list piece) ≤ 1
    one_more m None piece h = let few = piece_length piece in omega (arith, few)
    one_more m (Some v) piece h = let none = ap (λ q. length (piece_list q)) h in omega (arith, none)

    pub change : (value : Option V) (start end : Option K) (cut : Option (Range K)) (piece : Option (K × (Range K × V))) → IsLeft cmp eq ps r value start cut → IsRight cmp eq ps r value end piece → (m : Range K) → m.start ≡ unwrap_or start r.start → m.end ≡ unwrap_or end r.end → IsChange cmp eq ps r value cut piece m
    change value start end cut piece left right m low high =
        let low_tie : cmp m.start (unwrap_or start r.start) ≡ Equal = subst (λ x. cmp m.start x ≡ Equal) low (tied_itself o m.start) in
        let high_tie : cmp m.end (unwrap_or end r.end) ≡ Equal = subst (λ x. cmp m.end x ≡ Equal) high (tied_itself o m.end) in
        let front : IsLeftPart (shape cmp eq) ps (recut cut (before cmp m.start ps)) r m value = left.part m low_tie in
        let back : IsRightPart (shape cmp eq) ps (piece_list piece ++ from cmp m.end ps) r m value = right.part m high_tie in
        let m_full : cmp m.start m.end ≡ Less = lt_le_trans o m.start r.end m.end (le_lt_trans o m.start r.start r.end front.starts full) back.ends in
        let l = made_length m m_full cut (middle_of m value) piece in
        let same = middle_length m value in
        let one = piece_length piece in
        record {
          full = m_full;
          cut_there = left.cut_there m.start low_tie;
          new_there = right.new_there m.end high_tie;
          behind = right.behind m.end high_tie;
          made = record {
            canonical = made m value _ _ front back;
            newest = made_newest m value _ _ front back;
            growth = omega (arith, l, same, one);
            growth_where_all_are_equal = λ h. let few = one_more m value piece (right.of_other_values h) in omega (arith, l, few);
          };
        }

    -- where the ranges that start before the end end by the start, all stays
    pub unmoved : Every (λ (p : Range K × V). is_gt (cmp p.0.end r.start) ≡ false) (before cmp r.end ps) → IsCanonOf (half_open cmp) eq (erase (half_open cmp) (value_at (half_open cmp) ps) r) ps
    unmoved h =
        let u = unmet o eq e ps spaced r None full refl h in
        subst (IsCanonOf (half_open cmp) eq (erase (half_open cmp) (value_at (half_open cmp) ps) r)) (in_order r.end) (made r None _ _ u.0 u.1)
