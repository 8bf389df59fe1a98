-- The items of a union are hulls, and have the points of either side.
use Rattle.std.proofs.Common.{◌≡◌, Bool, true, false, ◌&&◌, ◌||◌, cond, List, [], ◌∷◌, ◌++◌, Option, Some, None, sym, ◌∙◌, ap, ap₂, subst, refl, true≢false, Less, is_lt, is_le, is_eq}
use Rattle.std.specs.Bool.{⊤}
use Rattle.std.proofs.Math.Bool.{or_assoc, or_comm}
use Rattle.std.proofs.lemmas.List.Folds.{list_any-append, list_all-append}
use Rattle.std.specs.List.{AllByRecursion, list_all, list_any}
use Rattle.std.specs.Cmp.{first_so, second_so}
use Rattle.std.specs.Cmp.Derive.{both_true}
use Rattle.rangemap_core.specs.operations.PlaceLaws.{HasPlaces}
use Rattle.rangemap_unions.specs.Items.{reaches, later_end, merged, items_from, items_of, union_items}
use Rattle.rangemap_core.specs.operations.Places.{RangePlaces}
use Rattle.rangemap_core.specs.laws.Orders.{le_Less, le_Equal, lt_le, itself, not_lt, le_through}
use Rattle.rangemap_core.specs.Ranges.{RangeKind, IsStorable, IsCanonical, unit_eq, with_unit}
use Rattle.rangemap_core.specs.Sets.{IsHull, IsApartFrom, AreApart, AreHulls, is_within}
use Rattle.rangemap_core.specs.engine.EndpointKinds.{lt_is}
use Rattle.rangemap_unions.proofs.PlaceLemmas.{or_first, or_second, chosen, decided, later_first, later_second, reached, unreached, within}

-- ---- what a list is among

-- a test that r passes finds one of the list
abbrev pub IsAmong : {X : Type 0} → List X → X → Type 0
IsAmong {X} given r = (test : X → Bool) → test r ≡ true → list_any test given ≡ true

abbrev pub AreAmong : {X : Type 0} → List X → List X → Type 0
AreAmong {X} given rs = (test : X → Bool) → list_any test rs ≡ true → list_any test given ≡ true

first_among : {X : Type 0} (given : List X) (r : X) (rest : List X) → AreAmong given (r ∷ rest) → IsAmong given r
first_among given r rest h test passes = h test (or_first (test r) (list_any test rest) passes)

rest_among : {X : Type 0} (given : List X) (r : X) (rest : List X) → AreAmong given (r ∷ rest) → AreAmong given rest
rest_among given r rest h test passes = h test (or_second (test r) (list_any test rest) passes)

pub left_among : {X : Type 0} (ps qs : List X) → AreAmong (ps ++ qs) ps
left_among ps qs test h = list_any-append test ps qs ∙ or_first (list_any test ps) (list_any test qs) h

pub right_among : {X : Type 0} (ps qs : List X) → AreAmong (ps ++ qs) qs
right_among ps qs test h = list_any-append test ps qs ∙ or_second (list_any test ps) (list_any test qs) h

list_all-map : {X : Type 0} (f g : X → Bool) → ((x : X) → f x ≡ true → g x ≡ true) → (xs : List X) → list_all f xs ≡ true → list_all g xs ≡ true
list_all-map f g step [] h = refl
list_all-map f g step (x ∷ xs) h =
    both_true (step x (first_so (f x) (list_all f xs) h)) (list_all-map f g step xs (second_so (f x) (list_all f xs) h))

-- ---- the merged list has the ranges of both

module _ {P X : Type 0} (l : RangePlaces P X) (test : X → Bool) where
  any_merged_from : (p : X) (ps : List X) → ((qs : List X) → list_any test (merged l ps qs) ≡ (list_any test ps || list_any test qs))
      → (qs : List X) → list_any test (merged l (p ∷ ps) qs) ≡ (list_any test (p ∷ ps) || list_any test qs)
  any_merged_from p ps on [] = ap (λ b. test p || b) (on []) ∙ sym (or_assoc (test p) (list_any test ps) false)
  any_merged_from p ps on (q ∷ qs) = decided (λ rs. list_any test rs ≡ (list_any test (p ∷ ps) || list_any test (q ∷ qs))) (is_lt (l.order (l.start_place p) (l.start_place q)))
      (λ _. ap (λ b. test p || b) (on (q ∷ qs)) ∙ sym (or_assoc (test p) (list_any test ps) (list_any test (q ∷ qs))))
      (λ _.
      ap (λ b. test q || b) (any_merged_from p ps on qs)
      ∙ sym (or_assoc (test q) (list_any test (p ∷ ps)) (list_any test qs))
      ∙ ap (λ b. b || list_any test qs) (or_comm (test q) (list_any test (p ∷ ps)))
      ∙ or_assoc (list_any test (p ∷ ps)) (test q) (list_any test qs))

  all_merged_from : (p : X) (ps : List X) → ((qs : List X) → list_all test (merged l ps qs) ≡ true → (list_all test ps && list_all test qs) ≡ true)
      → (qs : List X) → list_all test (merged l (p ∷ ps) qs) ≡ true → (list_all test (p ∷ ps) && list_all test qs) ≡ true
  all_merged_from p ps on [] h =
      let rest = on [] (second_so (test p) (list_all test (merged l ps [])) h) in
      both_true (both_true (first_so (test p) (list_all test (merged l ps [])) h) (first_so (list_all test ps) true rest)) refl
  all_merged_from p ps on (q ∷ qs) h = decided (λ rs. list_all test rs ≡ true → (list_all test (p ∷ ps) && list_all test (q ∷ qs)) ≡ true) (is_lt (l.order (l.start_place p) (l.start_place q)))
      (λ _ g.
      let rest = on (q ∷ qs) (second_so (test p) (list_all test (merged l ps (q ∷ qs))) g) in
      both_true (both_true (first_so (test p) (list_all test (merged l ps (q ∷ qs))) g) (first_so (list_all test ps) (list_all test (q ∷ qs)) rest)) (second_so (list_all test ps) (list_all test (q ∷ qs)) rest))
      (λ _ g.
      let rest = all_merged_from p ps on qs (second_so (test q) (list_all test (merged l (p ∷ ps) qs)) g) in
      both_true (first_so (list_all test (p ∷ ps)) (list_all test qs) rest) (both_true (first_so (test q) (list_all test (merged l (p ∷ ps) qs)) g) (second_so (list_all test (p ∷ ps)) (list_all test qs) rest)))
      h

  pub all_merged : (ps qs : List X) → list_all test (merged l ps qs) ≡ true → (list_all test ps && list_all test qs) ≡ true
  all_merged [] qs h = h
  all_merged (p ∷ ps) qs h = all_merged_from p ps (all_merged ps) qs h

-- ---- hulls

module _ {K X P : Type 0} {k : RangeKind K X} {l : RangePlaces P X} {at cut : K → P} (p : HasPlaces k l at cut) where
  -- the place is not below the floor, if there is one
  abbrev pub IsFrom : Option P → P → Type 0
  IsFrom None q = ⊤
  IsFrom (Some floor) q = is_le (l.order floor q) ≡ true

  -- ranges from the floor on, by their starts, of a list of given ones that may be stored
  abbrev pub AreReady : List X → Option P → List X → Type 0
  AreReady given floor [] = ⊤
  AreReady given floor (r ∷ rest) = IsAmong given r × IsStorable k r × IsFrom floor (l.start_place r) × AreReady given (Some (l.start_place r)) rest

  -- The merged list is ready where both lists are.
  merged_ready_from : (given : List X) (r : X) (rest : List X) → ((floor : Option P) (qs : List X) → AreReady given floor rest → AreReady given floor qs → AreReady given floor (merged l rest qs))
      → (floor : Option P) (qs : List X) → AreReady given floor (r ∷ rest) → AreReady given floor qs → AreReady given floor (merged l (r ∷ rest) qs)
  merged_ready_from given r rest on floor [] h g = (h.0, h.1, h.2, on (Some (l.start_place r)) [] h.3 tt)
  merged_ready_from given r rest on floor (q ∷ qs) h g = decided (AreReady given floor) (is_lt (l.order (l.start_place r) (l.start_place q)))
      (λ e. (h.0, h.1, h.2, on (Some (l.start_place r)) (q ∷ qs) h.3 (g.0, g.1, le_Less (lt_is _ e), g.3)))
      (λ e. (g.0, g.1, g.2, merged_ready_from given r rest on (Some (l.start_place q)) qs (h.0, h.1, not_lt p.total (l.start_place r) (l.start_place q) e, h.3) g.3))

  merged_ready : (given : List X) (ps : List X) (floor : Option P) (qs : List X) → AreReady given floor ps → AreReady given floor qs → AreReady given floor (merged l ps qs)
  merged_ready given [] floor qs h g = g
  merged_ready given (r ∷ rest) floor qs h g = merged_ready_from given r rest (merged_ready given rest) floor qs h g

  -- so is a canonical list
  abbrev StartsFrom : Option P → List X → Type 0
  StartsFrom floor [] = ⊤
  StartsFrom floor (r ∷ _) = IsFrom floor (l.start_place r)

  canonical_ready : (given rs : List X) (floor : Option P) → AreAmong given rs → IsCanonical k (unit_eq k) (with_unit k rs) → StartsFrom floor rs → AreReady given floor rs
  canonical_ready given [] floor among can from = tt
  canonical_ready given (r ∷ rest) floor among can from =
      (first_among given r rest among, can.0, from, canonical_ready given rest (Some (l.start_place r)) (rest_among given r rest among) can.2 (next rest can))
    where
      next : (ss : List X) → IsCanonical k (unit_eq k) (with_unit k (r ∷ ss)) → StartsFrom (Some (l.start_place r)) ss
      next [] c = tt
      next (s ∷ ss) c = le_Less (lt_le p.total (p.non_empty r c.0.non_empty) (p.before r s c.1.0))

  -- the item's ends are those of its first and last range
  item_after : (first last : X) (q : P) → is_le (l.order q (l.start_place first)) ≡ true → is_le (l.order q (l.start_place (l.between first last))) ≡ true
  item_after first last q h = ap (λ start_place. is_le (l.order q start_place)) (p.between_start_place first last) ∙ h

  item_before : (first last : X) (q : P) → is_le (l.order (l.end_place last) q) ≡ true → is_le (l.order (l.end_place (l.between first last)) q) ≡ true
  item_before first last q h = ap (λ end_place. is_le (l.order end_place q)) (p.between_end_place first last) ∙ h

  item_within : (first last x : X) → is_le (l.order (l.start_place first) (l.start_place x)) ≡ true → is_le (l.order (l.end_place x) (l.end_place last)) ≡ true → is_within k (l.between first last) x ≡ true
  item_within first last x up down = within p (l.between first last) x
      (ap (λ start_place. is_le (l.order start_place (l.start_place x))) (p.between_start_place first last) ∙ up)
      (ap (λ end_place. is_le (l.order (l.end_place x) end_place)) (p.between_end_place first last) ∙ down)

  module _ (given : List X) where
    -- An item that was begun with `first` and now ends with `last`.
    record IsBegun (first last : X) : Type 0 where
      first_given : IsAmong given first
      last_given : IsAmong given last
      first_stored : IsStorable k first
      last_stored : IsStorable k last
      starts_first : is_le (l.order (l.start_place first) (l.start_place last)) ≡ true
      ends_last : is_le (l.order (l.end_place first) (l.end_place last)) ≡ true
      uncut : (x : K) → l.order (l.start_place first) (cut x) ≡ Less → l.order (cut x) (l.end_place last) ≡ Less → list_any (λ r. k.is_cut r x) given ≡ true

    crossed : (r : X) (x : K) → IsAmong given r → l.order (l.start_place r) (cut x) ≡ Less → l.order (cut x) (l.end_place r) ≡ Less → list_any (λ s. k.is_cut s x) given ≡ true
    crossed r x among up down = among (λ s. k.is_cut s x) (p.cuts r x ∙ both_true (ap is_lt up) (ap is_lt down))

    begin : (r : X) → IsAmong given r → IsStorable k r → IsBegun r r
    begin r among stored = record {
      first_given = among;
      last_given = among;
      first_stored = stored;
      last_stored = stored;
      starts_first = le_Equal (itself p.total (l.start_place r));
      ends_last = le_Equal (itself p.total (l.end_place r));
      uncut = λ x up down. crossed r x among up down;
    }

    -- one range more, which the item reaches
    extend : (first last r : X) → IsBegun first last → IsAmong given r → IsStorable k r → is_le (l.order (l.start_place first) (l.start_place r)) ≡ true → reaches l last r ≡ true → IsBegun first (later_end l last r)
    extend first last r h among stored from touching = record {
      first_given = h.first_given;
      last_given = chosen (IsAmong given) longer r last among h.last_given;
      first_stored = h.first_stored;
      last_stored = chosen (IsStorable k) longer r last stored h.last_stored;
      starts_first = chosen (λ s. is_le (l.order (l.start_place first) (l.start_place s)) ≡ true) longer r last from h.starts_first;
      ends_last = le_through p.total _ _ _ h.ends_last (later_first p last r);
      uncut = λ x up down. by x up (is_lt (l.order (cut x) (l.end_place last))) refl longer down;
    }
      where
        longer : Bool
        longer = is_lt (l.order (l.end_place last) (l.end_place r))

        by : (x : K) → l.order (l.start_place first) (cut x) ≡ Less → (b : Bool) → is_lt (l.order (cut x) (l.end_place last)) ≡ b
            → (c : Bool) → l.order (cut x) (l.end_place (cond c r last)) ≡ Less → list_any (λ s. k.is_cut s x) given ≡ true
        by x up true e c down = h.uncut x up (lt_is _ e)
        by x up false e true down = crossed r x among (lt_le p.total (reached p last r touching) (not_lt p.total (cut x) (l.end_place last) e)) down
        by x up false e false down = absurd (true≢false (sym (ap is_lt down) ∙ e))

    -- the item as it is
    item_hull : (first last : X) → IsBegun first last → IsHull k given (l.between first last)
    item_hull first last h = record {
      non_empty = p.between_non_empty first last (lt_le p.total (p.non_empty first h.first_stored.non_empty) h.ends_last);
      starts = h.first_given (λ r. is_within k (l.between first last) r && is_eq (k.cmp (k.start (l.between first last)) (k.start r)))
          (both_true (item_within first last first (le_Equal (itself p.total (l.start_place first))) h.ends_last) (ap is_eq (p.starts (l.between first last) first ∙ ap (λ q. l.order q (l.start_place first)) (p.between_start_place first last) ∙ itself p.total (l.start_place first))));
      ends = h.last_given (λ r. is_within k (l.between first last) r && is_eq (k.cmp (k.end (l.between first last)) (k.end r)))
          (both_true (item_within first last last h.starts_first (le_Equal (itself p.total (l.end_place last)))) (ap is_eq (p.ends (l.between first last) last ∙ ap (λ q. l.order q (l.end_place last)) (p.between_end_place first last) ∙ itself p.total (l.end_place last))));
      uncut = λ x key within_item.
          let both = sym (p.cuts (l.between first last) x) ∙ within_item in
          h.uncut x (subst (λ q. l.order q (cut x) ≡ Less) (p.between_start_place first last) (lt_is _ (first_so _ _ both))) (subst (λ q. l.order (cut x) q ≡ Less) (p.between_end_place first last) (lt_is _ (second_so _ _ both)));
    }

    all_hulls : (first last : X) (rest : List X) (floor : P) → IsBegun first last → is_le (l.order (l.start_place first) floor) ≡ true → AreReady given (Some floor) rest → AllByRecursion (IsHull k given) (items_from l first last rest)
    all_hulls first last [] floor h from ready = (item_hull first last h, tt)
    all_hulls first last (r ∷ rest) floor h from ready = decided (AllByRecursion (IsHull k given)) (reaches l last r)
        (λ e. let above = le_through p.total _ _ _ from ready.2 in all_hulls first (later_end l last r) rest (l.start_place r) (extend first last r h ready.0 ready.1 above e) above ready.3)
        (λ e. (item_hull first last h, all_hulls r r rest (l.start_place r) (begin r ready.0 ready.1) (le_Equal (itself p.total (l.start_place r))) ready.3))

  -- an item before `first` lies before the items from there on
  apart_from : (item first last : X) (rest : List X) → is_le (l.order (l.end_place item) (l.start_place first)) ≡ true → IsApartFrom k item (items_from l first last rest)
  apart_from item first last [] h = p.before_from item (l.between first last) (item_after first last (l.end_place item) h)
  apart_from item first last (r ∷ rest) h = decided (IsApartFrom k item) (reaches l last r)
      (λ _. apart_from item first (later_end l last r) rest h)
      (λ _. p.before_from item (l.between first last) (item_after first last (l.end_place item) h))

  all_apart : (first last : X) (rest : List X) → AreApart k (items_from l first last rest)
  all_apart first last [] = (tt, tt)
  all_apart first last (r ∷ rest) = decided (AreApart k) (reaches l last r)
      (λ _. all_apart first (later_end l last r) rest)
      (λ e. (apart_from (l.between first last) r r rest (item_before first last (l.start_place r) (unreached p last r e)), all_apart r r rest))

  -- a range within what is joined so far lies within an item
  within_some : (first last x : X) (rest : List X) → is_le (l.order (l.start_place first) (l.start_place x)) ≡ true → is_le (l.order (l.end_place x) (l.end_place last)) ≡ true → list_any (λ item. is_within k item x) (items_from l first last rest) ≡ true
  within_some first last x [] up down = or_first (is_within k (l.between first last) x) false (item_within first last x up down)
  within_some first last x (r ∷ rest) up down = decided (λ items. list_any (λ item. is_within k item x) items ≡ true) (reaches l last r)
      (λ _. within_some first (later_end l last r) x rest up (le_through p.total _ _ _ down (later_first p last r)))
      (λ _. or_first (is_within k (l.between first last) x) (list_any (λ item. is_within k item x) (items_from l r r rest)) (item_within first last x up down))

  all_within : (given : List X) (first last : X) (rest : List X) (floor : P) → is_le (l.order (l.start_place first) floor) ≡ true → AreReady given (Some floor) rest
      → list_all (λ r. list_any (λ item. is_within k item r) (items_from l first last rest)) rest ≡ true
  all_within given first last [] floor from ready = refl
  all_within given first last (r ∷ rest) floor from ready = decided (λ items. list_all (λ s. list_any (λ item. is_within k item s) items) (r ∷ rest) ≡ true) (reaches l last r)
      (λ _.
      let above = le_through p.total _ _ _ from ready.2 in
      both_true (within_some first (later_end l last r) r rest above (later_second p last r)) (all_within given first (later_end l last r) rest (l.start_place r) above ready.3))
      (λ _.
      let same = le_Equal (itself p.total (l.start_place r)) in
      both_true
      (or_second (is_within k (l.between first last) r) (list_any (λ item. is_within k item r) (items_from l r r rest)) (within_some r r r rest same (le_Equal (itself p.total (l.end_place r)))))
      (list_all-map (λ s. list_any (λ item. is_within k item s) (items_from l r r rest)) (λ s. list_any (λ item. is_within k item s) (l.between first last ∷ items_from l r r rest))
      (λ s h. or_second (is_within k (l.between first last) s) (list_any (λ item. is_within k item s) (items_from l r r rest)) h) rest (all_within given r r rest (l.start_place r) same ready.3)))

  -- ---- the theorem

  merged_hulls : (given rs : List X) → AreReady given None rs
      → AreApart k (items_of l rs) × AllByRecursion (IsHull k given) (items_of l rs) × (list_all (λ r. list_any (λ item. is_within k item r) (items_of l rs)) rs ≡ true)
  merged_hulls given [] ready = (tt, tt, refl)
  merged_hulls given (r ∷ rest) ready =
      let same = le_Equal (itself p.total (l.start_place r)) in (
        all_apart r r rest,
        all_hulls given r r rest (l.start_place r) (begin given r ready.0 ready.1) same ready.3,
        both_true (within_some r r r rest same (le_Equal (itself p.total (l.end_place r)))) (all_within given r r rest (l.start_place r) same ready.3),
      )

  -- the items of a union are the hulls of the ranges of both sides
  pub union_hulls : (ps qs : List X) → IsCanonical k (unit_eq k) (with_unit k ps) → IsCanonical k (unit_eq k) (with_unit k qs) → AreHulls k (ps ++ qs) (union_items l ps qs)
  union_hulls ps qs can-p can-q =
      let h = merged_hulls (ps ++ qs) (merged l ps qs) (merged_ready (ps ++ qs) ps None qs (canonical_ready (ps ++ qs) ps None (left_among ps qs) can-p (free ps)) (canonical_ready (ps ++ qs) qs None (right_among ps qs) can-q (free qs))) in
      let test : X → Bool = λ r. list_any (λ item. is_within k item r) (union_items l ps qs) in
      record {
        apart = h.0;
        hulls = h.1;
        all_within = list_all-append test ps qs ∙ all_merged l test ps qs h.2;
      }
    where
      free : (rs : List X) → StartsFrom None rs
      free [] = tt
      free (r ∷ rest) = tt

  -- the same of what an engine was made of
  pub union_taken : (left right ps qs items : List X) → left ≡ ps → right ≡ qs → items ≡ union_items l left right → IsCanonical k (unit_eq k) (with_unit k ps) → IsCanonical k (unit_eq k) (with_unit k qs) → AreHulls k (ps ++ qs) items
  union_taken left right ps qs items p-is q-is is can-p can-q = subst (AreHulls k (ps ++ qs)) (sym (is ∙ ap₂ (union_items l) p-is q-is)) (union_hulls ps qs can-p can-q)
