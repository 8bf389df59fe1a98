-- What a set has that is made of items by inserts.
use Rattle.std.proofs.Common.{arith, ◌≡◌, ◌⊎◌, inl, inr, Bool, true, false, ◌&&◌, ◌||◌, List, [], ◌∷◌, ◌++◌, Some, sym, ◌∙◌, ap, refl, subst, true≢false, Ordering, Less, Equal, Greater, is_lt, is_le, is_eq}
use Rattle.std.specs.Bool.{⊤}
use Rattle.std.proofs.Math.Bool.{or-false}
use Rattle.std.proofs.lemmas.Bool.Decides.{nat_tests}
use Rattle.std.proofs.lemmas.List.Folds.{list_any-append}
use Rattle.std.specs.Cmp.{alike_right, both_ways, first_so, second_so}
use Rattle.std.specs.List.{AllByRecursion, list_all, list_any}
use Rattle.std.specs.Cmp.Derive.{both_true}
use Rattle.rangemap_core.specs.operations.PlaceLaws.{HasPlaces}
use Rattle.rangemap_core.specs.operations.Places.{RangePlaces}
use Rattle.rangemap_core.specs.laws.Orders.{eq_eq, eq_lt, eq_turn, le_Equal, lt_le, le_through}
use Rattle.rangemap_core.specs.MadeRanges.{TakesRange}
use Rattle.rangemap_core.specs.Ranges.{RangeKind, IsCanonOf, IsStorable, covers, override, unit_eq, value_at}
use Rattle.rangemap_core.specs.Sets.{Adds, AreHulls, IsHull, IsCanonicalSet, is_within, ranges}
use Rattle.rangemap_core.proofs.UnitValueLemmas.{added, covers_one}
use Rattle.rangemap_core.specs.engine.EndpointKinds.{lt_is}
use Rattle.rangemap_core.proofs.GapLemmas.{covers-cons}
use Rattle.rangemap_unions.proofs.PlaceLemmas.{covers_any, or_first, or_second}

-- a test of some element that the other test passes wherever this one does
list_any-map : {X : Type 0} (Q : X → Type 0) (f g : X → Bool) → ((x : X) → Q x → f x ≡ true → g x ≡ true) → (xs : List X) → AllByRecursion Q xs → list_any f xs ≡ true → list_any g xs ≡ true
list_any-map Q f g step [] all h = h
list_any-map Q f g step (x ∷ xs) all h = by (f x) refl h (λ w. list_any-map Q f g step xs all.1 w)
  where
    by : (b : Bool) → f x ≡ b → (b || list_any f xs) ≡ true → (list_any f xs ≡ true → list_any g xs ≡ true) → list_any g (x ∷ xs) ≡ true
    by true e w later = or_first (g x) (list_any g xs) (step x all.0 e)
    by false e w later = or_second (g x) (list_any g xs) (later w)

eq_true : (r : Ordering) → is_eq r ≡ true → r ≡ Equal
eq_true Less h = absurd (true≢false (sym h))
eq_true Equal h = refl
eq_true Greater h = absurd (true≢false (sym h))

module _ {K X : Type 0} (k : RangeKind K X) where
  -- the keys of the items to come, and those that the set has, are those that pass the test
  abbrev pub IsGathered : (K → Bool) → List X → List X → Type 0
  IsGathered test items all = IsCanonicalSet k all × ((x : K) → k.is_key x → (covers k items x || covers k all x) ≡ test x)

module _ {K X P : Type 0} {k : RangeKind K X} {l : RangePlaces P X} {at cut : K → P} (p : HasPlaces k l at cut) where
  -- a key of an item is one of a given range
  item_covered : (given : List X) (item : X) (x : K) → AllByRecursion (IsStorable k) given → IsHull k given item → k.is_key x → k.holds item x ≡ true → covers k given x ≡ true
  item_covered given item x stored hull key here = covers_any k given x ∙ by (p.held item x here)
    where
      by : (l.order (at x) (l.start_place item) ≡ Equal)
          ⊎ (((r : X) → k.IsNonEmpty r → l.order (l.end_place item) (l.end_place r) ≡ Equal → k.holds r x ≡ true) ⊎ (k.is_cut item x ≡ true))
          → list_any (λ r. k.holds r x) given ≡ true
      by (inl at_start) = list_any-map (IsStorable k) (λ r. is_within k item r && is_eq (k.cmp (k.start item) (k.start r))) (λ r. k.holds r x)
          (λ r r-stored both.
          let starts = eq_eq p.total at_start (sym (p.starts item r) ∙ eq_true _ (second_so _ _ both)) in
          p.holds r x ∙ both_true (le_Equal (eq_turn p.total starts)) (ap is_lt (eq_lt p.total starts (p.non_empty r r-stored.non_empty))))
          given stored hull.starts
      by (inr (inl at_end)) = list_any-map (IsStorable k) (λ r. is_within k item r && is_eq (k.cmp (k.end item) (k.end r))) (λ r. k.holds r x)
          (λ r r-stored both. at_end r r-stored.non_empty (sym (p.ends item r) ∙ eq_true _ (second_so _ _ both)))
          given stored hull.ends
      by (inr (inr inside)) = list_any-map (IsStorable k) (λ r. k.is_cut r x) (λ r. k.holds r x) (λ r _ crossing. p.cut_held r x crossing) given stored (hull.uncut x key inside)

  items_covered : (given items : List X) (x : K) → AllByRecursion (IsStorable k) given → AllByRecursion (IsHull k given) items → k.is_key x → covers k items x ≡ true → covers k given x ≡ true
  items_covered given [] x stored hulls key h = absurd (true≢false (sym h))
  items_covered given (item ∷ items) x stored hulls key h = by (k.holds item x) refl (sym (covers-cons k item items x) ∙ h) (λ w. items_covered given items x stored hulls.1 key w)
    where
      by : (b : Bool) → k.holds item x ≡ b → (b || covers k items x) ≡ true → (covers k items x ≡ true → covers k given x ≡ true) → covers k given x ≡ true
      by true e w later = item_covered given item x stored hulls.0 key e
      by false e w later = later w

  -- what a range holds, one that it lies within holds
  within_holds : (item r : X) (x : K) → k.holds r x ≡ true → is_within k item r ≡ true → k.holds item x ≡ true
  within_holds item r x here inside =
      let both = sym (p.holds r x) ∙ here in
      p.holds item x
      ∙ both_true
      (le_through p.total _ _ _ (sym (ap is_le (p.starts item r)) ∙ first_so _ _ inside) (first_so _ _ both))
      (ap is_lt (lt_le p.total (lt_is _ (second_so _ _ both)) (sym (ap is_le (p.ends r item)) ∙ second_so _ _ inside)))

  given_covered : (items given : List X) (x : K) → list_all (λ r. list_any (λ item. is_within k item r) items) given ≡ true → covers k given x ≡ true → covers k items x ≡ true
  given_covered items [] x all h = absurd (true≢false (sym h))
  given_covered items (r ∷ rest) x all h = by (k.holds r x) refl (sym (covers-cons k r rest x) ∙ h) (λ w. given_covered items rest x (second_so _ _ all) w)
    where
      by : (b : Bool) → k.holds r x ≡ b → (b || covers k rest x) ≡ true → (covers k rest x ≡ true → covers k items x ≡ true) → covers k items x ≡ true
      by true e w later = covers_any k items x ∙ list_any-map (λ _. ⊤) (λ item. is_within k item r) (λ item. k.holds item x) (λ item _ inside. within_holds item r x e inside) items (every items) (first_so _ _ all)
        where
          every : (ys : List X) → AllByRecursion (λ _. ⊤) ys
          every [] = tt
          every (y ∷ ys) = (tt, every ys)
      by false e w later = later w

  -- hulls have the points of the given ranges
  pub hulls_cover : (given items : List X) (x : K) → AllByRecursion (IsStorable k) given → AreHulls k given items → k.is_key x → covers k items x ≡ covers k given x
  hulls_cover given items x stored h key = both_ways (covers k items x) (covers k given x) (items_covered given items x stored h.hulls key) (given_covered items given x h.all_within)

  -- ---- what a set has that is made of the items

  -- ranges with equal ends have the same keys
  same_held : (r s : X) (x : K) → k.cmp (k.start r) (k.start s) ≡ Equal → k.cmp (k.end r) (k.end s) ≡ Equal → k.holds r x ≡ k.holds s x
  same_held r s x starts ends =
      p.holds r x
      ∙ ap (λ c. is_le c && is_lt (l.order (at x) (l.end_place r))) (p.total.congr (l.start_place r) (l.start_place s) (at x) (sym (p.starts r s) ∙ starts))
      ∙ ap (λ c. is_le (l.order (l.start_place s) (at x)) && is_lt c) (alike_right p.total (l.end_place r) (l.end_place s) (at x) (sym (p.ends r s) ∙ ends))
      ∙ sym (p.holds s x)

  swapped : (a b c : Bool) → (a || (b || c)) ≡ ((b || a) || c)
  swapped a b c = grind (arith, nat_tests)

  -- ---- a set to which the items of an operation go over, one by one

  pub gathered_next : {e : RangeKind K X} → HasPlaces e l at cut → (all more : List (X × ⊤)) (test : K → Bool) (items new : List X) (range : X)
      → IsGathered k test items (ranges all) → TakesRange e items (Some range) new → IsCanonOf k (unit_eq k) (override k (value_at k all) range tt) more → IsGathered k test new (ranges more)
  gathered_next q all more test items new range so_far taken inserted = (
    now.canonical,
    λ x key.
        ap (λ b. covers k new x || b) (now.points x key ∙ ap (λ b. b || covers k (ranges all) x) (covers_one k range x))
        ∙ swapped (covers k new x) (k.holds range x) (covers k (ranges all) x)
        ∙ ap (λ b. (b || covers k new x) || covers k (ranges all) x) (sym (same_held item range x starts ends))
        ∙ ap (λ b. b || covers k (ranges all) x) (sym (covers-cons k item new x))
        ∙ ap (λ rs. covers k rs x || covers k (ranges all) x) (sym taken.1)
        ∙ so_far.1 x key,
  )
    where
      now : Adds k (ranges all) (range ∷ []) (ranges more)
      now = added k all more range inserted

      item : X
      item = taken.0

      starts : k.cmp (k.start item) (k.start range) ≡ Equal
      starts = p.starts item range ∙ sym (q.starts item range) ∙ taken.2.starts

      ends : k.cmp (k.end item) (k.end range) ≡ Equal
      ends = p.ends item range ∙ sym (q.ends item range) ∙ taken.2.ends

  -- no item was put in yet
  pub gathered_first : (test : K → Bool) (items old : List X) → old ≡ [] → ((x : K) → k.is_key x → covers k items x ≡ test x) → IsGathered k test items old
  gathered_first test items old none same = (
    subst (IsCanonicalSet k) (sym none) tt,
    λ x key. ap (λ rs. covers k items x || covers k rs x) none ∙ or-false (covers k items x) ∙ same x key,
  )

  covers_append : (ps qs : List X) (x : K) → covers k (ps ++ qs) x ≡ (covers k ps x || covers k qs x)
  covers_append ps qs x =
      covers_any k (ps ++ qs) x
      ∙ list_any-append (λ r. k.holds r x) ps qs
      ∙ sym (ap (λ b. b || covers k qs x) (covers_any k ps x) ∙ ap (λ b. list_any (λ r. k.holds r x) ps || b) (covers_any k qs x))

  all_stored : (rs : List X) → IsCanonicalSet k rs → AllByRecursion (IsStorable k) rs
  all_stored [] h = tt
  all_stored (r ∷ rest) h = (h.0, all_stored rest h.2)

  both_stored : (ps qs : List X) → AllByRecursion (IsStorable k) ps → AllByRecursion (IsStorable k) qs → AllByRecursion (IsStorable k) (ps ++ qs)
  both_stored [] qs h g = g
  both_stored (r ∷ rest) qs h g = (h.0, both_stored rest qs h.1 g)

  -- the points of a union's items
  pub either_points : (ps qs items : List X) → IsCanonicalSet k ps → IsCanonicalSet k qs → AreHulls k (ps ++ qs) items
      → (x : K) → k.is_key x → covers k items x ≡ (covers k ps x || covers k qs x)
  either_points ps qs items can-p can-q hulls x key =
      hulls_cover (ps ++ qs) items x (both_stored ps qs (all_stored ps can-p) (all_stored qs can-q)) hulls key
      ∙ covers_append ps qs x
