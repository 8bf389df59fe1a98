-- For callers whose keys are numbers: what the contracts say, by ≤ and <. Each lemma is of any kind of
-- ranges of numbers, as `n`: `half_open_unsigned`, `closed_unsigned bound`, and the same signed.
use Rattle.std.proofs.Common.{◌≡◌, ◌≢◌, ℕ, Bool, true, false, List, [], map, length, nat_lt, Option, Some, None, option_map, Result, Ok, IsOkAnd, Ordering, Less, Equal, Greater, is_eq, true≢false, eqb-true, refl, sym, ap, subst}
use Rattle.std.specs.Cmp.{int_ranked}
use Rattle.std.specs.Iterator.{Yields}
use Rattle.std.specs.List.{All}
use Rattle.std.specs.Option.{option_eq}
use Rattle.std.specs.Ordering.{int_cmp, int_eq}
use Rattle.std.specs.Prelude.{nat_eq, ⊤, ℤ}
use Rattle.std.specs.declared.alloc.AllocError.{AllocError}
use Rattle.rangemap_core.specs.MadeRanges.{GivesRange}
use Rattle.rangemap_core.specs.Ranges.{AreGaps, IsCanonOf, IsCanonical, IsStorable, covering, erase, overlapped, override, value_at}
use Rattle.rangemap.specs.DefinedIn.{IsDefinedIn}
use Rattle.rangemap_containers.specs.Histories.{IsUndefinedOn}
use Rattle.rangemap.proofs.CallerLemmas.{exact_option, insert_outside, insert_within, remove_outside, remove_within}
use Rattle.rangemap_core.proofs.StoredKeyLemmas.{changes_behind, covering_holds, covering_same, holds_start}
use Rattle.rangemap.proofs.DefinedInLemmas.{defined_by_overlaps, defined_where_one_meets, undefined_by_overlaps, undefined_where_none_meets}
use Rattle.rangemap.proofs.GapLoopLemmas.{IsWithin, free_in_earlier, free_in_given, item_stored, item_undefined, item_within}
use Rattle.rangemap.proofs.Loops.{AsksForGaps}
use Rattle.rangemap.proofs.NumberKinds.{NumberKind}

-- ---- values: equal ones are the same one

pub same_number : (v w : ℕ) → nat_eq v w ≡ true → v ≡ w
same_number v w h = eqb-true v w h

pub same_signed : (v w : ℤ) → int_eq v w ≡ true → v ≡ w
same_signed v w h = go (int_cmp v w) refl h
  where
    go : (r : Ordering) → int_cmp v w ≡ r → is_eq r ≡ true → v ≡ w
    go Less e t = absurd (true≢false (sym t))
    go Equal e t = int_ranked v w Equal (sym e)
    go Greater e t = absurd (true≢false (sym t))

pub same_unit : (v w : ⊤) → true ≡ true → v ≡ w
same_unit v w h = refl

-- ---- keys of a range

false_by : (b : Bool) → (b ≡ true → ⊥) → b ≡ false
false_by true h = absurd (h refl)
false_by false h = refl

module _ {K X : Type 0} (n : NumberKind K X) (r : X) where
  pub not_before : (x : K) → n.order.IsBelow x (n.kind.start r) → n.kind.holds r x ≡ false
  not_before x below = false_by (n.kind.holds r x) (λ h. n.order.not_both x (n.kind.start r) below (n.from r x h))

  pub not_behind : (x : K) → n.order.IsAtMost (n.behind r) x → n.kind.holds r x ≡ false
  not_behind x past = false_by (n.kind.holds r x) (λ h. n.order.not_both x (n.behind r) (n.to r x h) past)

  -- a range that may be stored has a number
  pub forward : IsStorable n.kind r → n.order.IsBelow (n.kind.start r) (n.behind r)
  forward stored = n.to r (n.kind.start r) (holds_start n.placed r stored)

-- ---- values after a change, where equal values are the same (`same_number` says so of numbers)

-- After an insert of the value v for the range r: a number of the range has the value, and any other
-- what the function f gave it.
pub record IsInserted {K X V : Type 0} (n : NumberKind K X) (f : K → Option V) (r : X) (v : V) (list : List (X × V)) : Type 0 where
  pub within : (x : K) → n.kind.is_key x → n.order.IsAtMost (n.kind.start r) x → n.order.IsBelow x (n.behind r) → value_at n.kind list x ≡ Some v
  pub before : (x : K) → n.kind.is_key x → n.order.IsBelow x (n.kind.start r) → value_at n.kind list x ≡ f x
  pub behind : (x : K) → n.kind.is_key x → n.order.IsAtMost (n.behind r) x → value_at n.kind list x ≡ f x

pub inserted : {K X V : Type 0} (n : NumberKind K X) {eq : V → V → Bool} → ((v w : V) → eq v w ≡ true → v ≡ w) → {f : K → Option V} (r : X) {v : V} {list : List (X × V)} → IsCanonOf n.kind eq (override n.kind f r v) list → IsInserted n f r v list
inserted n {eq} exact {f} r {v} {list} h = record {
  within = λ x key from to. exact_option exact (value_at n.kind list x) (Some v) (insert_within n.kind eq f r list x key v h (n.holds r x from to));
  before = λ x key below. exact_option exact (value_at n.kind list x) (f x) (insert_outside n.kind eq f r list x key v h (not_before n r x below));
  behind = λ x key past. exact_option exact (value_at n.kind list x) (f x) (insert_outside n.kind eq f r list x key v h (not_behind n r x past));
}

-- After a removal of the range r: a number of the range has no value, and any other what the function f
-- gave it.
pub record IsRemoved {K X V : Type 0} (n : NumberKind K X) (f : K → Option V) (r : X) (list : List (X × V)) : Type 0 where
  pub within : (x : K) → n.kind.is_key x → n.order.IsAtMost (n.kind.start r) x → n.order.IsBelow x (n.behind r) → value_at n.kind list x ≡ None
  pub before : (x : K) → n.kind.is_key x → n.order.IsBelow x (n.kind.start r) → value_at n.kind list x ≡ f x
  pub behind : (x : K) → n.kind.is_key x → n.order.IsAtMost (n.behind r) x → value_at n.kind list x ≡ f x

pub removed : {K X V : Type 0} (n : NumberKind K X) {eq : V → V → Bool} → ((v w : V) → eq v w ≡ true → v ≡ w) → {f : K → Option V} (r : X) {list : List (X × V)} → IsCanonOf n.kind eq (erase n.kind f r) list → IsRemoved n f r list
removed n {eq} exact {f} r {list} h = record {
  within = λ x key from to. remove_within n.kind eq f r list x key h (n.holds r x from to);
  before = λ x key below. exact_option exact (value_at n.kind list x) (f x) (remove_outside n.kind eq f r list x key h (not_before n r x below));
  behind = λ x key past. exact_option exact (value_at n.kind list x) (f x) (remove_outside n.kind eq f r list x key h (not_behind n r x past));
}

-- ---- the stored range that has a number

-- The range r has the number x. `Has` holds of each number of it, and `Lacks` of the number behind it.
pub record IsRun {K X : Type 0} (n : NumberKind K X) (Has Lacks : K → Type 0) (x : K) (r : X) : Type 0 where
  pub stored : IsStorable n.kind r
  pub from : n.order.IsAtMost (n.kind.start r) x
  pub to : n.order.IsBelow x (n.behind r)
  pub has : (y : K) → n.order.IsAtMost (n.kind.start r) y → n.order.IsBelow y (n.behind r) → Has y
  pub ends : n.kind.is_key (n.behind r) → Lacks (n.behind r)

-- what `get_key_value` found, where equality of values is symmetric
pub run_found : {K X V : Type 0} (n : NumberKind K X) {eq : V → V → Bool} → ((v w : V) → eq v w ≡ eq w v) → (list : List (X × V)) → IsCanonical n.kind eq list → {x : K} → n.kind.is_key x → {r : X} {v : V}
    → Some (r, v) ≡ covering n.kind list x → IsRun n (λ y. value_at n.kind list y ≡ Some v) (λ y. option_eq eq (value_at n.kind list y) (Some v) ≡ false) x r
run_found {X = X} {V = V} n {eq = eq} symm list can {x} key {r} {v} h =
    let found : IsStorable n.kind r × (n.kind.holds r x ≡ true) = covering_holds n.placed eq list (r, v) x can (sym h) in
    record {
      stored = found.0;
      from = n.from r x found.1;
      to = n.to r x found.1;
      has = λ y from to. let holds = n.holds r y from to in ap (option_map (λ (q : X × V). q.1)) (covering_same n.placed eq list (r, v) x y can (n.is_key r y found.0 holds) (sym h) holds);
      ends = λ end. changes_behind n.placed eq symm list (r, v) x (n.behind r) can key end (sym h) (n.ends r end);
    }

-- ---- what `overlaps` and `overlapping` tell

module _ {K X V : Type 0} (n : NumberKind K X) (list : List (X × V)) where
  -- no number from the first up to, and without, the second has a value
  abbrev pub IsFreeBetween : K → K → Type 0
  IsFreeBetween first past = (x : K) → n.order.IsAtMost first x → n.order.IsBelow x past → value_at n.kind list x ≡ None

  -- some number from the first up to, and without, the second has one
  pub record IsHeldBetween (first past : K) : Type 0 where
    pub at : K
    pub from : n.order.IsAtMost first at
    pub to : n.order.IsBelow at past
    pub value : V
    pub is : value_at n.kind list at ≡ Some value

  pub not_free_and_held : {first past : K} (h : IsHeldBetween first past) → value_at n.kind list h.at ≡ None → ⊥
  not_free_and_held h none = let some = h.is in cc

module _ {K X V : Type 0} (n : NumberKind K X) (eq : V → V → Bool) (list : List (X × V)) (can : IsCanonical n.kind eq list) (q : X) (stored : IsStorable n.kind q) where
  free_from : IsUndefinedOn n.kind (value_at n.kind list) q → IsFreeBetween n list (n.kind.start q) (n.behind q)
  free_from none x from to = let holds = n.holds q x from to in none x (n.is_key q x stored holds) holds

  held_from : IsDefinedIn n.kind (value_at n.kind list) q → IsHeldBetween n list (n.kind.start q) (n.behind q)
  held_from one = record { at = one.key; from = n.from q one.key one.holds; to = n.to q one.key one.holds; value = one.value; is = one.is }

  pub free_by_overlaps : nat_lt 0 (length (overlapped n.kind list q)) ≡ false → IsFreeBetween n list (n.kind.start q) (n.behind q)
  free_by_overlaps h = free_from (undefined_by_overlaps n.placed eq q stored list can h)

  pub held_by_overlaps : nat_lt 0 (length (overlapped n.kind list q)) ≡ true → IsHeldBetween n list (n.kind.start q) (n.behind q)
  held_by_overlaps h = held_from (defined_by_overlaps n.placed eq q stored list can h)

  pub free_where_none_meets : overlapped n.kind list q ≡ [] → IsFreeBetween n list (n.kind.start q) (n.behind q)
  free_where_none_meets h = free_from (undefined_where_none_meets n.placed eq q stored list can h)

  pub held_where_one_meets : overlapped n.kind list q ≢ [] → IsHeldBetween n list (n.kind.start q) (n.behind q)
  held_where_one_meets h = held_from (defined_where_one_meets n.placed eq q stored list can h)

-- ---- a loop that searches the gaps of q, as `for gap in map.gaps(&q)`, and keeps of each gap that P
-- holds of it: `All (λ item. IsOkAnd item P) l.yielded`

module _ {K X : Type 0} (n : NumberKind K X) where
  -- some number lies from the first up to, and without, the second, and those that do are keys
  pub record IsStretch (first past : K) : Type 0 where
    pub forward : n.order.IsBelow first past
    pub first_is_key : n.kind.is_key first
    pub last_is_key : n.kind.is_key (n.order.last past)

  -- some range of which P holds has all of them
  pub record IsInOne (P : X → Type 0) (first past : K) : Type 0 where
    pub gap : X
    pub kept : P gap
    pub starts : n.order.IsAtMost (n.kind.start gap) first
    pub ends : n.order.IsAtMost past (n.behind gap)

-- The next gap: its numbers are numbers of q without a value, and whatever such numbers start
-- before it lie in an earlier gap.
pub record IsNextGap {K X V : Type 0} (n : NumberKind K X) (list : List (X × V)) (q : X) (P : X → Type 0) (gap : X) : Type 0 where
  pub stored : IsStorable n.kind gap
  pub forward : n.order.IsBelow (n.kind.start gap) (n.behind gap)
  pub from : n.order.IsAtMost (n.kind.start q) (n.kind.start gap)
  pub to : n.order.IsAtMost (n.behind gap) (n.behind q)
  pub free : IsFreeBetween n list (n.kind.start gap) (n.behind gap)
  pub earlier : (first past : K) → IsStretch n first past → n.order.IsAtMost (n.kind.start q) first → n.order.IsAtMost past (n.behind q) → IsFreeBetween n list first past → n.order.IsBelow first (n.kind.start gap) → IsInOne n P first past

module _ {K X V : Type 0} (n : NumberKind K X) (list : List (X × V)) (q : X) (all start : List X) (items : List (Result X AllocError)) (left new : List X) (result : Option (Result X AllocError))
    (are : AreGaps n.kind (map (λ pair. pair.0) list) q all) (is : start ≡ all) (so_far : Yields (GivesRange n.kind) start items left) (step : GivesRange n.kind left result new) (P : X → Type 0) (each : All (λ item. IsOkAnd item P) items) where
  module _ (first past : K) (s : IsStretch n first past) (from : n.order.IsAtMost (n.kind.start q) first) (to : n.order.IsAtMost past (n.behind q)) (free : IsFreeBetween n list first past) where
    abbrev r : X
    r = n.stretch first past

    r_from : (x : K) → n.kind.holds r x ≡ true → n.order.IsAtMost first x
    r_from x h = subst (λ a. n.order.IsAtMost a x) (n.starts first past) (n.from r x h)

    r_to : (x : K) → n.kind.holds r x ≡ true → n.order.IsBelow x past
    r_to x h = subst (λ b. n.order.IsBelow x b) (n.stops first past s.forward) (n.to r x h)

    stored : IsStorable n.kind r
    stored = n.storable first past s.forward s.first_is_key s.last_is_key

    inside : (x : K) → n.kind.is_key x → n.kind.holds r x ≡ true → n.kind.holds q x ≡ true
    inside x key h = n.holds q x (n.order.trans (n.kind.start q) first x from (r_from x h)) (n.order.below_trans x past (n.behind q) (r_to x h) to)

    undefined : IsUndefinedOn n.kind (value_at n.kind list) r
    undefined x key h = free x (r_from x h) (r_to x h)

    in_one : (g : X) × P g × IsWithin n.kind r g → IsInOne n P first past
    in_one w = record {
      gap = w.0;
      kept = w.1;
      starts = subst (λ a. n.order.IsAtMost (n.kind.start w.0) a) (n.starts first past) (n.starts_within r w.0 w.2.starts);
      ends = subst (λ b. n.order.IsAtMost b (n.behind w.0)) (n.stops first past s.forward) (n.ends_within r w.0 w.2.ends);
    }

    in_last : result ≡ None → IsInOne n P first past
    in_last none = in_one (free_in_given n.placed list q all start items left new result are is so_far step P each r stored inside undefined none)

    in_earlier : (item : Result X AllocError) (gap : X) → result ≡ Some item → item ≡ Ok gap → n.order.IsBelow first (n.kind.start gap) → IsInOne n P first past
    in_earlier item gap some ok below =
        let less = subst (λ a. n.kind.cmp a (n.kind.start gap) ≡ Less) (sym (n.starts first past)) (n.less first (n.kind.start gap) below) in
        in_one (free_in_earlier n.placed list q all start items left new result are is so_far step P each r stored inside undefined item gap some ok less)

  the_next : {item : Result X AllocError} {gap : X} → result ≡ Some item → item ≡ Ok gap → IsNextGap n list q P gap
  the_next {item} {gap} some ok =
      let kept = item_stored n.placed list q all start items left new result are is so_far step P each item gap some ok in
      let within = item_within n.placed list q all start items left new result are is so_far step P each item gap some ok in
      record {
        stored = kept;
        forward = forward n gap kept;
        from = n.from q (n.kind.start gap) (within (n.kind.start gap) kept.start_is_key (holds_start n.placed gap kept));
        to = n.lies_within gap q kept within;
        free = λ x from to. let holds = n.holds gap x from to in item_undefined n.placed list q all start items left new result are is so_far step P each item gap some ok x (n.is_key gap x kept holds) holds;
        earlier = λ first past s from to free below. in_earlier first past s from to free item gap some ok below;
      }

module _ {K X V : Type 0} (n : NumberKind K X) (list : List (X × V)) (q : X) {items : List (Result X AllocError)} {result : Option (Result X AllocError)} (asks : AsksForGaps n.kind (map (λ pair. pair.0) list) q items result) {P : X → Type 0} (each : All (λ item. IsOkAnd item P) items) where
  -- a gap that such a loop is given
  pub next_gap : {item : Result X AllocError} {gap : X} → (result ≡ Some item) × (item ≡ Ok gap) → IsNextGap n list q P gap
  next_gap given = let a = asks.asks in the_next n list q asks.all a.start items a.left a.new result asks.are a.is a.so_far a.step P each given.0 given.1

  -- at its end, numbers without a value lie in some gap
  pub last_gap : result ≡ None → (first past : K) → IsStretch n first past → n.order.IsAtMost (n.kind.start q) first → n.order.IsAtMost past (n.behind q) → IsFreeBetween n list first past → IsInOne n P first past
  last_gap none first past s from to free = let a = asks.asks in in_last n list q asks.all a.start items a.left a.new result asks.are a.is a.so_far a.step P each first past s from to free none
