-- For callers that loop over the gaps of a range: what they were given so far, what comes next,
-- and what all the gaps are.
use Rattle.std.proofs.Common.{◌≡◌, Bool, true, false, cond, List, [], ◌∷◌, ◌++◌, map, append-nil, Option, Some, None, option_map, is_some, Result, Ok, Err, IsOkAnd, refl, sym, ap, subst, ◌∙◌, true≢false, Ordering, Less, Equal, Greater, is_lt, is_le}
use Rattle.std.specs.Bool.{⊤}
use Rattle.std.specs.Option.{option_eq}
use Rattle.std.specs.List.{find}
use Rattle.std.specs.Cmp.{IsTotalOrder}
use Rattle.std.specs.Iterator.{Yields}
use Rattle.std.specs.List.{All, AllByRecursion, AllZip}
use Rattle.std.proofs.lemmas.List.Elements.{recursion_from_All}
use Rattle.std.specs.declared.alloc.AllocError.{AllocError}
use Rattle.rangemap_core.specs.Ranges.{RangeKind, AreGaps, IsCanonical, IsStorable, covering, covers, unit_eq, value_at, with_unit}
use Rattle.rangemap_containers.specs.Histories.{IsUndefinedOn}
use Rattle.rangemap_core.specs.MadeRanges.{IsSame, GivesRange, TakesRange}
use Rattle.rangemap_core.specs.engine.Endpoints.{IsPlaced, EndpointOf}
use Rattle.rangemap_core.specs.engine.Places.{place_cmp}
use Rattle.rangemap_core.specs.laws.Orders.{eq_le, eq_turn, itself, le_Equal, le_Less, le_eq, lt_eq, turn}
use Rattle.rangemap_core.specs.engine.PlacedKinds.{place_total}
use Rattle.rangemap_core.proofs.SameRangeLemmas.{same_gaps}
use Rattle.rangemap_core.proofs.UniquenessLemmas.{same_points}
use Rattle.rangemap.proofs.Loops.{AsksForGaps}
use Rattle.rangemap.proofs.CallerLemmas.{gap_keys}
use Rattle.rangemap_core.proofs.StoredKeyLemmas.{covering_holds, changes_behind, below_end_place, from_start, holds_between, holds_start, none_before}

-- ---- one gap for a stretch of keys

covers_some : {K X : Type 0} (k : RangeKind K X) (ranges : List X) (x : K) → covers k ranges x ≡ true → (g : X) × (find (λ r. k.holds r x) ranges ≡ Some g)
covers_some {X = X} k ranges x h = go (find (λ r. k.holds r x) ranges) h
  where
    go : (o : Option X) → is_some o ≡ true → (g : X) × (o ≡ Some g)
    go None h = absurd (true≢false (sym h))
    go (Some g) h = (g, refl)

-- the ranges with the value that says nothing have it where they cover
covering_unit : {K X : Type 0} (k : RangeKind K X) (ranges : List X) (x : K) → covering k (with_unit k ranges) x ≡ option_map (λ r. (r, tt)) (find (λ r. k.holds r x) ranges)
covering_unit k [] x = refl
covering_unit {X = X} k (r ∷ ranges) x = go (k.holds r x) (covering_unit k ranges x)
  where
    go : (b : Bool) → covering k (with_unit k ranges) x ≡ option_map (λ r. (r, tt)) (find (λ r. k.holds r x) ranges)
        → cond b (Some (r, tt)) (covering k (with_unit k ranges) x) ≡ option_map (λ r. (r, tt)) (cond b (Some r) (find (λ r. k.holds r x) ranges))
    go true rest = refl
    go false rest = rest

module _ {K X : Type 0} {k : RangeKind K X} {end_place : X → Option K} {part : EndpointOf X → EndpointOf X → X} (p : IsPlaced k end_place part) where
  ord : IsTotalOrder (place_cmp k.cmp)
  ord = place_total p.total

  -- a range of keys, each of which some range of a canonical list without values covers, lies
  -- within one range of it, that which has its start
  module _ (ranges : List X) (can : IsCanonical k (unit_eq k) (with_unit k ranges)) (r : X) (stored : IsStorable k r) (all : (x : K) → k.is_key x → k.holds r x ≡ true → covers k ranges x ≡ true)
      (g : X) (is : find (λ s. k.holds s (k.start r)) ranges ≡ Some g) where
    start_in : covering k (with_unit k ranges) (k.start r) ≡ Some (g, tt)
    start_in = covering_unit k ranges (k.start r) ∙ ap (option_map (λ s. (s, tt))) is

    at : IsStorable k g × (k.holds g (k.start r) ≡ true)
    at = covering_holds p (unit_eq k) (with_unit k ranges) (g, tt) (k.start r) can start_in

    valued : (x : K) → k.is_key x → k.holds r x ≡ true → option_eq (unit_eq k) (value_at k (with_unit k ranges) x) (Some tt) ≡ true
    valued x key h =
        let c = covers_some k ranges x (all x key h) in
        ap (λ m. option_eq (unit_eq k) (option_map (λ (q : X × ⊤). q.1) m) (Some tt)) (covering_unit k ranges x ∙ ap (option_map (λ s. (s, tt))) c.1)

    not_short : (h : Option K) → end_place g ≡ h → place_cmp k.cmp h (end_place r) ≡ Less → ⊥
    not_short None e l = none_last (end_place r) l
      where
        none_last : (m : Option K) → place_cmp k.cmp None m ≡ Less → ⊥
        none_last None l = true≢false (sym (ap is_lt l))
        none_last (Some y) l = true≢false (sym (ap is_lt l))
    not_short (Some y) e l =
        let key = p.end_place_is_key g y at.0 e in
        let tied : place_cmp k.cmp (Some y) (end_place g) ≡ Equal = subst (λ m. place_cmp k.cmp (Some y) m ≡ Equal) (sym e) (itself p.total y) in
        let from : k.cmp (k.start r) y ≡ Less = lt_eq ord {a = Some (k.start r)} {b = end_place g} {c = Some y} (below_end_place p g (k.start r) at.0 stored.start_is_key at.1) (eq_turn ord {a = Some y} {b = end_place g} tied) in
        let holds = holds_between p r y stored key (le_Less from) l in
        true≢false (sym (valued y key holds) ∙ changes_behind p (unit_eq k) (λ v w. refl) (with_unit k ranges) (g, tt) (k.start r) y can stored.start_is_key key start_in tied)

    pub ends_within : is_le (place_cmp k.cmp (end_place r) (end_place g)) ≡ true
    ends_within = by (place_cmp k.cmp (end_place g) (end_place r)) refl
      where
        by : (c : Ordering) → place_cmp k.cmp (end_place g) (end_place r) ≡ c → is_le (place_cmp k.cmp (end_place r) (end_place g)) ≡ true
        by Less e = absurd (not_short (end_place g) refl e)
        by Equal e = le_Equal (eq_turn ord {a = end_place g} {b = end_place r} e)
        by Greater e = le_Less (turn ord {a = end_place g} {b = end_place r} e)

    pub starts_within : is_le (k.cmp (k.start g) (k.start r)) ≡ true
    starts_within = from_start p g (k.start r) at.0 stored.start_is_key at.1

    pub within_one : IsStorable k g
    within_one = at.0

-- ---- a loop over `gaps`

-- r lies within g: it starts no sooner and ends no later
pub record IsWithin {K X : Type 0} (k : RangeKind K X) (r g : X) : Type 0 where
  pub starts : is_le (k.cmp (k.start g) (k.start r)) ≡ true
  pub ends : is_le (k.cmp (k.end r) (k.end g)) ≡ true

module _ {K X : Type 0} (k : RangeKind K X) (P : X → Type 0) where
  -- each of the ranges is the same as one of which P holds
  abbrev AreLike : List X → Type 0
  AreLike [] = ⊤
  AreLike (r ∷ rs) = ((s : X) × IsSame k r s × P s) × AreLike rs

  taken_like : (all : List X) (items : List (Result X AllocError)) (left : List X) → Yields (GivesRange k) all items left → AllByRecursion (λ item. IsOkAnd item P) items → (taken : List X) × (all ≡ taken ++ left) × AreLike taken
  taken_like all [] left y each = ([], y, tt)
  taken_like all (Ok s ∷ items) left y each =
      let rest = taken_like y.0 items left y.2 each.1 in
      (y.1.0 ∷ rest.0, y.1.1 ∙ ap (λ xs. y.1.0 ∷ xs) rest.1, ((s, y.1.2, each.0), rest.2))
  taken_like all (Err e ∷ items) left y each = absurd each.0

  like_found : (test : X → Bool) (taken : List X) (g : X) → AreLike taken → find test taken ≡ Some g → (s : X) × IsSame k g s × P s
  like_found test [] g like h = absurd (cc)
  like_found test (t ∷ taken) g like h = go (test t) h (like_found test taken g like.1)
    where
      some_is : (u v : X) → Some u ≡ Some v → u ≡ v
      some_is u v e = cc

      go : (b : Bool) → cond b (Some t) (find test taken) ≡ Some g → (find test taken ≡ Some g → (s : X) × IsSame k g s × P s) → (s : X) × IsSame k g s × P s
      go true e rest = subst (λ u. (s : X) × IsSame k u s × P s) (some_is t g e) like.0
      go false e rest = rest e

  -- what is found in two parts is found in the first, or is not there and is found in the second
  found_in_parts : (test : X → Bool) (taken left : List X) (g : X) → find test (taken ++ left) ≡ Some g → AreLike taken → (find test left ≡ Some g → ⊥) → (s : X) × IsSame k g s × P s
  found_in_parts test [] left g h like not_left = absurd (not_left h)
  found_in_parts test (t ∷ taken) left g h like not_left = go (test t) h (λ e. found_in_parts test taken left g e like.1 not_left)
    where
      some_is : (u v : X) → Some u ≡ Some v → u ≡ v
      some_is u v e = cc

      go : (b : Bool) → cond b (Some t) (find test (taken ++ left)) ≡ Some g → (find test (taken ++ left) ≡ Some g → (s : X) × IsSame k g s × P s) → (s : X) × IsSame k g s × P s
      go true e rest = subst (λ u. (s : X) × IsSame k u s × P s) (some_is t g e) like.0
      go false e rest = rest e

covers_middle : {K X : Type 0} (k : RangeKind K X) (taken : List X) (g : X) (new : List X) (x : K) → k.holds g x ≡ true → covers k (taken ++ g ∷ new) x ≡ true
covers_middle k [] g new x h = ap (λ b. is_some (cond b (Some g) (find (λ r. k.holds r x) new))) h
covers_middle k (t ∷ taken) g new x h = go (k.holds t x) (covers_middle k taken g new x h)
  where
    go : (b : Bool) → covers k (taken ++ g ∷ new) x ≡ true → is_some (cond b (Some t) (find (λ r. k.holds r x) (taken ++ g ∷ new))) ≡ true
    go true rest = refl
    go false rest = rest

rest_canonical : {K X : Type 0} (k : RangeKind K X) (taken left : List X) → IsCanonical k (unit_eq k) (with_unit k (taken ++ left)) → IsCanonical k (unit_eq k) (with_unit k left)
rest_canonical k [] left can = can
rest_canonical k (t ∷ taken) left can = rest_canonical k taken left can.2

module _ {K X : Type 0} (k : RangeKind K X) where
  taken_same : (all : List X) (items : List X) (left : List X) → Yields (GivesRange k) all (map Ok items) left → (taken : List X) × (all ≡ taken ++ left) × AllZip (IsSame k) taken items
  taken_same all [] left y = ([], y, tt)
  taken_same all (s ∷ items) left y =
      let rest = taken_same y.0 items left y.2 in
      (y.1.0 ∷ rest.0, y.1.1 ∙ ap (λ xs. y.1.0 ∷ xs) rest.1, (y.1.2, rest.2))

-- A loop over the gaps `all` of the range q, as `for gap in map.gaps(&q)`. It was given `items`,
-- and `left` is still to come when it asks again: the answer is `result`, after which `new` is
-- to come.
module _ {K X V : Type 0} {k : RangeKind K X} {end_place : X → Option K} {part : EndpointOf X → EndpointOf X → X} (p : IsPlaced k end_place part) (list : List (X × V)) (q : X) (all start : List X) (items : List (Result X AllocError)) (left new : List X) (result : Option (Result X AllocError))
    (are : AreGaps k (map (λ pair. pair.0) list) q all) (is : start ≡ all) (so_far : Yields (GivesRange k) start items left) (step : GivesRange k left result new) where
  -- where P holds of each item: a range of which no key has a value
  module _ (P : X → Type 0) (each : All (λ item. IsOkAnd item P) items) (r : X) (stored : IsStorable k r) (within : (x : K) → k.is_key x → k.holds r x ≡ true → k.holds q x ≡ true) (free : IsUndefinedOn k (value_at k list) r) where
    covered : (x : K) → k.is_key x → k.holds r x ≡ true → covers k all x ≡ true
    covered x key h = (gap_keys k list q all are).all x key (within x key h) (free x key h)

    taken : (xs : List X) × (start ≡ xs ++ left) × AreLike k P xs
    taken = taken_like k P start items left so_far (recursion_from_All (λ item. IsOkAnd item P) items each)

    abbrev test : X → Bool
    test s = k.holds s (k.start r)

    within_same : (g s : X) → find test all ≡ Some g → IsSame k g s → IsWithin k r s
    within_same g s found same =
        let w : is_le (place_cmp k.cmp (end_place r) (end_place g)) ≡ true = ends_within p all are.canonical r stored covered g found in
        let g_stored = within_one p all are.canonical r stored covered g found in
        record {
          starts = eq_le p.total (k.start s) (k.start g) (k.start r) (eq_turn p.total same.starts) (starts_within p all are.canonical r stored covered g found);
          ends = le_eq p.total (k.end r) (k.end g) (k.end s) (ap is_le (p.ends r g stored g_stored) ∙ w) same.ends;
        }

    in_taken : (g : X) → find test all ≡ Some g → (find test left ≡ Some g → ⊥) → (s : X) × P s × IsWithin k r s
    in_taken g found not_left =
        let like = found_in_parts k P test taken.0 left g (subst (λ xs. find test xs ≡ Some g) (sym is ∙ taken.1) found) taken.2 not_left in
        (like.0, like.2, within_same g like.0 found like.1)

    the_gap : (g : X) × (find test all ≡ Some g)
    the_gap = covers_some k all (k.start r) (covered (k.start r) stored.start_is_key (holds_start p r stored))

    -- at the end, it lies within an item
    pub free_in_given : result ≡ None → (s : X) × P s × IsWithin k r s
    free_in_given none =
        let ended : left ≡ [] = (subst (λ answer. GivesRange k left answer new) none step).0 in
        in_taken the_gap.0 the_gap.1 (λ found. nothing_found (subst (λ xs. find test xs ≡ Some the_gap.0) ended found))
      where
        nothing_found : {g : X} → None ≡ Some g → ⊥
        nothing_found e = cc

    -- at a further item, it lies within an earlier one if it starts before this one
    pub free_in_earlier : (item : Result X AllocError) (range : X) → result ≡ Some item → item ≡ Ok range → k.cmp (k.start r) (k.start range) ≡ Less → (s : X) × P s × IsWithin k r s
    free_in_earlier item range some ok sooner = in_taken the_gap.0 the_gap.1 (λ found. not_found (find test left) found none_left)
      where
        not_found : (o : Option X) → o ≡ Some the_gap.0 → o ≡ None → ⊥
        not_found o a b = cc

        now : TakesRange k left (Some range) new
        now = subst (λ answer. GivesRange k left answer new) (some ∙ ap Some ok) step

        can : IsCanonical k (unit_eq k) (with_unit k (now.0 ∷ new))
        can = rest_canonical k taken.0 (now.0 ∷ new) (subst (λ xs. IsCanonical k (unit_eq k) (with_unit k xs)) (sym is ∙ taken.1 ∙ ap (λ xs. taken.0 ++ xs) now.1) are.canonical)

        unit_none : (o : Option X) → option_map {U = X × ⊤} (λ (s : X). (s, tt)) o ≡ None → o ≡ None
        unit_none None h = refl
        unit_none (Some s) h = absurd (cc)

        none_left : find test left ≡ None
        none_left =
            ap (find test) now.1
            ∙ unit_none (find test (now.0 ∷ new)) (sym (covering_unit k (now.0 ∷ new) (k.start r))
            ∙ none_before p (unit_eq k) (now.0, tt) (with_unit k new) (k.start r) can stored.start_is_key (lt_eq p.total {a = k.start r} {b = k.start range} {c = k.start now.0} sooner (eq_turn p.total now.2.starts)))

  -- a further item may be stored, and each of its keys is one of q and has no value
  module _ (P : X → Type 0) (each : All (λ item. IsOkAnd item P) items) (item : Result X AllocError) (range : X) (some : result ≡ Some item) (ok : item ≡ Ok range) where
    before : (xs : List X) × (start ≡ xs ++ left) × AreLike k P xs
    before = taken_like k P start items left so_far (recursion_from_All (λ item. IsOkAnd item P) items each)

    next : TakesRange k left (Some range) new
    next = subst (λ answer. GivesRange k left answer new) (some ∙ ap Some ok) step

    parts : all ≡ before.0 ++ next.0 ∷ new
    parts = sym is ∙ before.1 ∙ ap (λ xs. before.0 ++ xs) next.1

    pub item_stored : IsStorable k range
    item_stored = next.2.storable

    item_covered : (x : K) → k.is_key x → k.holds range x ≡ true → covers k all x ≡ true
    item_covered x key h =
        let stored = (rest_canonical k before.0 (next.0 ∷ new) (subst (λ xs. IsCanonical k (unit_eq k) (with_unit k xs)) parts are.canonical)).0 in
        ap (λ xs. covers k xs x) parts ∙ covers_middle k before.0 next.0 new x (same_points k p next.0 range x stored item_stored key next.2.starts next.2.ends ∙ h)

    pub item_within : (x : K) → k.is_key x → k.holds range x ≡ true → k.holds q x ≡ true
    item_within x key h = (gap_keys k list q all are).within x key (item_covered x key h)

    pub item_undefined : IsUndefinedOn k (value_at k list) range
    item_undefined x key h = (gap_keys k list q all are).undefined x key (item_covered x key h)

-- at the end of such a loop the items are the gaps
pub gaps_collected : {K X V : Type 0} {k : RangeKind K X} {end_place : X → Option K} {part : EndpointOf X → EndpointOf X → X} (p : IsPlaced k end_place part) (list : List (X × V)) (q : X) {items : List (Result X AllocError)} {result : Option (Result X AllocError)} → AsksForGaps k (map (λ pair. pair.0) list) q items result → {collected : List X} → items ≡ map Ok collected → result ≡ None → AreGaps k (map (λ pair. pair.0) list) q collected
gaps_collected {k = k} p list q {items} {result} loop {collected} alike none =
    let asks = loop.asks in
    let taken = taken_same k asks.start collected asks.left (subst (λ xs. Yields (GivesRange k) asks.start xs asks.left) alike asks.so_far) in
    let ended : asks.left ≡ [] = (subst (λ answer. GivesRange k asks.left answer asks.new) none asks.step).0 in
    same_gaps p (map (λ pair. pair.0) list) loop.all collected q loop.are (subst (λ xs. AllZip (IsSame k) xs collected) (sym (sym asks.is ∙ taken.1 ∙ (ap (λ xs. taken.0 ++ xs) ended ∙ append-nil taken.0))) taken.2)
