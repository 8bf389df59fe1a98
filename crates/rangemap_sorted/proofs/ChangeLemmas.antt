-- What a change leaves: the canonical list of the changed function, hardly longer than before.
use Rattle.std.proofs.Common.{arith, append-nil, ◌≡◌, inl, inr, ℕ, zero, suc, ◌+◌, ◌-◌, ◌<◌, ◌≤◌, List, [], ◌∷◌, ◌++◌, length, take, drop, get_or, Option, Some, None, IfSome, Less, refl, sym, ap, ◌∙◌, subst, Bool, true, false, ◌&&◌, cond, filter, true≢false, is_lt}
use Rattle.std.proofs.lemmas.List.{length-append, length-take-le, length-drop, take-append-drop, get_or_default}
use Rattle.std.proofs.lemmas.Bool.{cases_lt}
use Rattle.std.specs.Option.{option_to_list}
use Rattle.std.specs.Cmp.{IsEquivalence, tied_itself}
use Rattle.rangemap_core.specs.engine.Endpoints.{IsPlaced, EndpointOf, asked}
use Rattle.rangemap_core.specs.Ranges.{RangeKind, IsStorable, IsCanonical, overlapped, value_at}
use Rattle.rangemap_core.specs.engine.Places.{Spans}
use Rattle.rangemap_core.specs.engine.Shape.{IsPlaceChange, IsSpaced, given, optional}
use Rattle.rangemap_core.specs.engine.Stretch.{Every, apart_by, are_apart, IsStretch, IsLeftSide, IsRightSide, IsPiece, IsTaken, middle_of, taken_or_new}
use Rattle.rangemap_core.proofs.PlaceLemmas.{S, places, AreStorable, storable_here, to_spaced, to_changed, to_newest}
use Rattle.rangemap_core.proofs.StoredLemmas.{all_storable}
use Rattle.rangemap_core.proofs.ListLemmas.{Every-append}
use Rattle.rangemap_core.proofs.InsertSideLemmas.{replaced_spaced, replaced_changes}
use Rattle.rangemap_sorted.specs.Changes.{IsChanged, grown}

pub Every-taken : {X : Type 0} (Q : X → Type 0) (n : ℕ) (xs : List X) → Every Q xs → Every Q (take n xs)
Every-taken Q zero xs h = tt
Every-taken Q (suc n) [] h = tt
Every-taken Q (suc n) (x ∷ xs) h = (h.0, Every-taken Q n xs h.1)

pub Every-dropped : {X : Type 0} (Q : X → Type 0) (n : ℕ) (xs : List X) → Every Q xs → Every Q (drop n xs)
Every-dropped Q zero xs h = h
Every-dropped Q (suc n) [] h = tt
Every-dropped Q (suc n) (x ∷ xs) h = Every-dropped Q n xs h.1

pub option_length : {X : Type 0} (o : Option X) → length (option_to_list o) ≤ 1
option_length None = omega arith
option_length (Some x) = omega arith

-- a list whose middle is another
pub spliced_length : {X : Type 0} (xs ys : List X) (start end : ℕ) → start ≤ length xs → length (take start xs ++ ys ++ drop end xs) ≡ start + (length ys + (length xs - end))
spliced_length xs ys start end h =
    let a = length-append (take start xs ++ ys) (drop end xs) in
    let b = length-append (take start xs) ys in
    let c = length-take-le start xs h in
    let d = length-drop end xs in
    omega (arith, a, b, c, d)

filtered_none : {X : Type 0} (test : X → Bool) (xs : List X) → filter test xs ≡ [] → (i : ℕ) (d : X) → i < length xs → test (get_or xs i d) ≡ true → ⊥
filtered_none test [] h i d l t = absurd (omega arith)
filtered_none test (x ∷ xs) h zero d l t = go (test x) t h
  where
    go : (b : Bool) → b ≡ true → cond b (x ∷ filter test xs) (filter test xs) ≡ [] → ⊥
    go true e f = absurd (cc)
    go false e f = true≢false (sym e)
filtered_none test (x ∷ xs) h (suc i) d l t = filtered_none test xs (go (test x) h) i d (omega arith) t
  where
    go : (b : Bool) → cond b (x ∷ filter test xs) (filter test xs) ≡ [] → filter test xs ≡ []
    go true f = absurd (cc)
    go false f = f

-- what stands in the middle
grown_is : {X V : Type 0} (m : X) (value : Option V) → grown value ≡ suc (length (middle_of m value))
grown_is m None = refl
grown_is m (Some v) = refl

module _ {K X V : Type 0} {k : RangeKind K X} {end_place : X → Option K} {part : EndpointOf X → EndpointOf X → X} (p : IsPlaced k end_place part) (eq : V → V → Bool) (e : IsEquivalence eq) (xs : List (X × V)) (c : IsCanonical k eq xs) (r : X) (value : Option V) (stored : IsStorable k r) (start end : ℕ)
    (left right : Option (X × V)) (taken_left taken_right : Bool)
    (is_left : IsLeftSide (S p eq) xs (r, value) start end left taken_left) (is_right : IsRightSide (S p eq) xs (r, value) start end right taken_right) (st : IsStretch (S p eq) xs (r, value) start end) where
  pub taken : IsTaken (S p eq) xs r start end taken_left taken_right
  taken = record {
    first_in_stretch = is_left.in_stretch;
    last_in_stretch = is_right.in_stretch;
    in_bounds = st.in_bounds;
    starts = (is_left.part (taken_or_new xs start taken_left r) (tied_itself (places p eq) ((S p eq).start_place (taken_or_new xs start taken_left r)))).starts;
    ends = (is_right.part (taken_or_new xs (end - 1) taken_right r) (tied_itself (places p eq) ((S p eq).end_place (taken_or_new xs (end - 1) taken_right r)))).ends;
  }

  module _ (left_piece : IsPiece k eq value start end left) (right_piece : IsPiece k eq value start end right) (m : X)
      (spans : Spans k end_place (Some (k.start (taken_or_new xs start taken_left r))) (end_place (taken_or_new xs (end - 1) taken_right r)) m) where
    middle_storable : (w : Option V) → AreStorable p eq (middle_of m w)
    middle_storable None = tt
    middle_storable (Some v) = (spans.storable, tt)

    abbrev pub replaced : List (X × V)
    replaced = take start xs ++ (option_to_list left ++ (middle_of m value ++ option_to_list right)) ++ drop end xs

    are_storable : AreStorable p eq replaced
    are_storable = Every-append _ (take start xs ++ (option_to_list left ++ (middle_of m value ++ option_to_list right))) (drop end xs)
        (Every-append _ (take start xs) (option_to_list left ++ (middle_of m value ++ option_to_list right)) (Every-taken _ start xs (all_storable _ eq xs c))
        (Every-append _ (option_to_list left) (middle_of m value ++ option_to_list right) left_piece.storable (Every-append _ (middle_of m value) (option_to_list right) (middle_storable value) right_piece.storable)))
        (Every-dropped _ end xs (all_storable _ eq xs c))

    spaced : IsSpaced (S p eq) replaced
    spaced = replaced_spaced (S p eq) (places p eq) e xs (to_spaced p eq xs c) (r, value) (p.non_empty r stored) start end st left right taken_left taken_right m is_left is_right spans.from spans.to

    changes : IsPlaceChange (S p eq) xs replaced r value
    changes = replaced_changes (S p eq) (places p eq) e xs (to_spaced p eq xs c) (r, value) (p.non_empty r stored) start end st left right taken_left taken_right m is_left is_right spans.from spans.to

    replaced_is_changed : IsChanged k eq (value_at k xs) r value replaced
    replaced_is_changed = record {
      canon = to_changed p eq xs replaced r (all_storable _ eq xs c) are_storable stored spaced e value changes;
      newest = to_newest p eq xs replaced r (all_storable _ eq xs c) are_storable stored spaced value changes;
    }

    whole : length replaced ≡ start + (length (option_to_list left) + (length (middle_of m value) + length (option_to_list right)) + (length xs - end))
    whole =
        let a = spliced_length xs (option_to_list left ++ (middle_of m value ++ option_to_list right)) start end (omega (arith, st.start_le_end, st.in_bounds)) in
        let b = length-append (option_to_list left) (middle_of m value ++ option_to_list right) in
        let d = length-append (middle_of m value) (option_to_list right) in
        omega (arith, a, b, d)

    no_length : (o : Option (X × V)) → o ≡ None → length (option_to_list o) ≡ 0
    no_length o h = ap (λ u. length (option_to_list u)) h

    replaced_length : length replaced ≤ length xs + grown value
    replaced_length =
        let l = option_length left in
        let n = option_length right in
        let g = grown_is m value in
        elim (cases_lt start end) [
          | inl less ↦ omega (arith, whole, g, l, n, st.in_bounds)
          | inr more ↦
              let same : start ≡ end = omega (arith, st.start_le_end) in
              let no_left = no_length left (left_piece.of_a_stretch same) in
              let no_right = no_length right (right_piece.of_a_stretch same) in
              omega (arith, whole, g, no_left, no_right, st.in_bounds)
        ]

    replaced_length_of_equals : ((v w : V) → eq v w ≡ true) → length replaced ≤ length xs + 1
    replaced_length_of_equals one = by value refl
      where
        by : (w : Option V) → value ≡ w → length replaced ≤ length xs + 1
        by None h = let g : grown value ≡ 1 = ap grown h in omega (arith, replaced_length, g)
        by (Some v) h =
            let no_left = no_length left (subst (λ w. IfSome w (λ _. left ≡ None)) h (left_piece.of_other_values one)) in
            let no_right = no_length right (subst (λ w. IfSome w (λ _. right ≡ None)) h (right_piece.of_other_values one)) in
            let g : grown value ≡ 2 = ap grown h in
            omega (arith, whole, grown_is m value, g, no_left, no_right, st.in_bounds, st.start_le_end)

    pub replaced_is_made : IsChanged k eq (value_at k xs) r value replaced × (length replaced ≤ length xs + grown value) × (((v w : V) → eq v w ≡ true) → length replaced ≤ length xs + 1)
    replaced_is_made = (replaced_is_changed, replaced_length, replaced_length_of_equals)

-- nothing comes in the place of no pair
pub unchanged : {X : Type 0} (xs : List X) (start end : ℕ) (left middle right : List X) → start ≡ end → left ≡ [] → middle ≡ [] → right ≡ [] → take start xs ++ (left ++ (middle ++ right)) ++ drop end xs ≡ xs
unchanged xs start end left middle right same no_left no_middle no_right = rw (no_left, no_middle, no_right, ← same, append-nil (take start xs)) (take-append-drop start xs)

-- where no value comes and the stretch has a pair, the range meets one
module _ {K X V : Type 0} {k : RangeKind K X} {end_place : X → Option K} {part : EndpointOf X → EndpointOf X → X} (p : IsPlaced k end_place part) (eq : V → V → Bool) (xs : List (X × V)) (c : IsCanonical k eq xs) (r : X) (stored : IsStorable k r) (start end : ℕ) (st : IsStretch (S p eq) xs (r, None) start end) where
  less_of : (x y : Option K) → apart_by ((S p eq).order x y) false ≡ false → (S p eq).order y x ≡ Less
  less_of x y h = grind (arith, h, (places p eq).antisymm x y)

  pub meets_none : overlapped k xs r ≡ [] → start ≡ end
  meets_none h = elim (cases_lt start end) [
    | inr more ↦ omega (arith, st.start_le_end)
    | inl l ↦ absurd (by l xs refl)
  ]
    where
      met : start < end → (a : X × V) → a ≡ get_or xs start a → ⊥
      met l a is =
          let bound : start < length xs = omega (arith, st.in_bounds, l) in
          let near = less_of _ _ (subst (λ (b : X × V). are_apart (optional (S p eq)) (given b) (r, None) ≡ false) (sym is) (st.before.1 start a (omega arith) bound)) in
          let far = less_of _ _ (subst (λ (b : X × V). are_apart (optional (S p eq)) (r, None) (given b) ≡ false) (sym is) (st.after.0 start a (omega arith) l)) in
          let meets : k.meets r a.0 ≡ true = p.meets r a.0 (asked k r stored) (storable_here p eq xs c start a bound is) ∙ (λ i. is_lt (near i) && is_lt (far i)) in
          filtered_none (λ (b : X × V). k.meets r b.0) xs h start a bound (subst (λ (b : X × V). k.meets r b.0 ≡ true) is meets)

      by : start < end → (ys : List (X × V)) → xs ≡ ys → ⊥
      by l [] q = let none = ap length q in absurd (omega (arith, none, st.in_bounds, l))
      by l (y ∷ ys) q =
          let bound : start < length xs = omega (arith, st.in_bounds, l) in
          met l (get_or xs start y) (get_or_default xs start y (get_or xs start y) bound)
