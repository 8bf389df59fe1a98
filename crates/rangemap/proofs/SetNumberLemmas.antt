-- A set's keys after a change, as one equation of truth values over plain numbers, and the first gap of a range without a loop.
use Rattle.std.proofs.Common.{◌≡◌, ◌≢◌, ◌<◌, ◌≤◌, ◌+◌, ◌&&◌, ◌||◌, ◌⊎◌, inl, inr, ℕ, List, [], ◌∷◌, ◌++◌, Bool, true, false, Option, Some, None, Result, Ok, IsOkAnd, OnOk, map, cond, is_some, length, take, get_or, nat_le, nat_lt, not, arith, ap, ◌∙◌, sym, refl, subst, true≢false}
use Rattle.std.proofs.lemmas.Bool.Decides.{nat_tests}
use Rattle.std.proofs.lemmas.List.{take_more}
use Rattle.std.proofs.lemmas.List.Elements.{All-nil}
use Rattle.std.proofs.lemmas.Result.{on_ok_weaker}
use Rattle.std.specs.Bool.{⊤}
use Rattle.std.specs.List.{find}
use Rattle.std.specs.Ordering.{nat_cmp}
use Rattle.std.specs.Range.{range_inclusive_end, range_inclusive_start}
use Rattle.std.specs.declared.alloc.AllocError.{AllocError}
use Rattle.std.specs.declared.ops.Range.{Range}
use Rattle.std.specs.declared.ops.RangeInclusive.{RangeInclusive}
use Rattle.rangemap_core.specs.MadeRanges.{GivesRange}
use Rattle.rangemap.specs.Ranges.{RangeKind, closed, covers, half_open, value_at}
use Rattle.rangemap.specs.Sets.{Adds, IsCanonicalSet, TakesOut, range_at}
use Rattle.rangemap.proofs.CallerLemmas.{gap_keys}
use Rattle.rangemap.proofs.LoopLemmas.{exact_half_open}
use Rattle.rangemap.proofs.Loops.{AsksForGaps}
use Rattle.rangemap.proofs.NumberKinds.{closed_unsigned, half_open_unsigned}
use Rattle.rangemap.proofs.NumberLemmas.{IsFreeBetween, last_gap, next_gap, not_before, not_behind}
use Rattle.rangemap.proofs.SetCallerLemmas.{set_run_found}

-- ---- the numbers of a range, as a test

-- where a number lies to two others
place : (from to x : ℕ) → ((x < from) × ((nat_le from x && nat_lt x to) ≡ false)) ⊎ (((to ≤ x) × ((nat_le from x && nat_lt x to) ≡ false)) ⊎ ((from ≤ x) × (x < to) × ((nat_le from x && nat_lt x to) ≡ true)))
place from to x = grind (arith, nat_tests)

-- a number is one of `a..b` where this test says so
pub half_open_test : (r : Range ℕ) (x : ℕ) → (half_open nat_cmp).holds r x ≡ (nat_le r.start x && nat_lt x r.end)
half_open_test r x =
    elim (place r.start r.end x) [
      | inl w ↦ not_before half_open_unsigned r x w.0 ∙ sym w.1
      | inr v ↦ elim v [ inl w ↦ not_behind half_open_unsigned r x w.0 ∙ sym w.1 | inr w ↦ half_open_unsigned.holds r x w.0 w.1 ∙ sym w.2 ]
    ]

up_to : (from last x : ℕ) → (nat_le from x && nat_lt x (last + 1)) ≡ (nat_le from x && nat_le x last)
up_to from last x = grind (arith, nat_tests)

-- a number is one of `a..=b` where this test says so
pub closed_test : (bound : ℕ) (r : RangeInclusive ℕ) (x : ℕ) → (closed (λ x. x < bound) nat_cmp).holds r x ≡ (nat_le (range_inclusive_start r) x && nat_le x (range_inclusive_end r))
closed_test bound r x =
    elim (place (range_inclusive_start r) (range_inclusive_end r + 1) x) [
      | inl w ↦ not_before (closed_unsigned bound) r x w.0 ∙ sym w.1
      | inr v ↦ elim v [ inl w ↦ not_behind (closed_unsigned bound) r x w.0 ∙ sym w.1 | inr w ↦ (closed_unsigned bound).holds r x w.0 w.1 ∙ sym w.2 ]
    ]
    ∙ up_to (range_inclusive_start r) (range_inclusive_end r) x

-- ---- a set's keys after a change, as one equation

module _ {K X : Type 0} (k : RangeKind K X) where
  joined : (r : X) (b c : Bool) → (is_some (cond b (Some r) None) || c) ≡ (c || b)
  joined r true true = refl
  joined r true false = refl
  joined r false true = refl
  joined r false false = refl

  -- what a set covers after an insert of one range
  pub added : (old new : List X) (r : X) (x : K) → k.is_key x → Adds k old (r ∷ []) new → covers k new x ≡ (covers k old x || k.holds r x)
  added old new r x key adds = adds.points x key ∙ joined r (k.holds r x) (covers k old x)

  cut : (b c : Bool) → (not b && c) ≡ (c && not b)
  cut true true = refl
  cut true false = refl
  cut false true = refl
  cut false false = refl

  -- what a set covers after a removal of one range
  pub taken : (old new : List X) (r : X) (x : K) → k.is_key x → TakesOut k old r new → covers k new x ≡ (covers k old x && not (k.holds r x))
  taken old new r x key takes = takes.points x key ∙ cut (k.holds r x) (covers k old x)

  one_of : (x : X) (b : Bool) (o p : Option X) (c : Bool) → is_some p ≡ (is_some o || c) → is_some (cond b (Some x) p) ≡ (is_some (cond b (Some x) o) || c)
  one_of x true o p c h = refl
  one_of x false o p c h = h

  -- what two lists cover, one after the other
  pub covers_append : (rs ss : List X) (x : K) → covers k (rs ++ ss) x ≡ (covers k rs x || covers k ss x)
  covers_append [] ss x = refl
  covers_append (r ∷ rs) ss x = one_of r (k.holds r x) (find (λ s. k.holds s x) rs) (find (λ s. k.holds s x) (rs ++ ss)) (covers k ss x) (covers_append rs ss x)

-- what a set of numbers covers after an insert of `a..b`
pub added_between : (old new : List (Range ℕ)) (r : Range ℕ) → Adds (half_open nat_cmp) old (r ∷ []) new → (x : ℕ) → covers (half_open nat_cmp) new x ≡ (covers (half_open nat_cmp) old x || (nat_le r.start x && nat_lt x r.end))
added_between old new r adds x = added (half_open nat_cmp) old new r x tt adds ∙ ap (λ b. covers (half_open nat_cmp) old x || b) (half_open_test r x)

-- the same of a call that may be refused
pub inserted_between : (result : Result ⊤ AllocError) (old new : List (Range ℕ)) (r : Range ℕ) → OnOk result (Adds (half_open nat_cmp) old (r ∷ []) new) → OnOk result ((x : ℕ) → covers (half_open nat_cmp) new x ≡ (covers (half_open nat_cmp) old x || (nat_le r.start x && nat_lt x r.end)))
inserted_between result old new r adds = on_ok_weaker result (added_between old new r) adds

-- what a set of numbers covers after a removal of `a..b`
pub taken_between : (old new : List (Range ℕ)) (r : Range ℕ) → TakesOut (half_open nat_cmp) old r new → (x : ℕ) → covers (half_open nat_cmp) new x ≡ (covers (half_open nat_cmp) old x && not (nat_le r.start x && nat_lt x r.end))
taken_between old new r takes x = taken (half_open nat_cmp) old new r x tt takes ∙ ap (λ b. covers (half_open nat_cmp) old x && not b) (half_open_test r x)

-- the range `first..=last`
abbrev pub IsFromTo : ℕ → ℕ → RangeInclusive ℕ → Type 0
IsFromTo first last r = (range_inclusive_start r ≡ first) × (range_inclusive_end r ≡ last)

-- what a set of numbers covers after an insert of `first..=last`
pub added_closed : (bound : ℕ) (old new : List (RangeInclusive ℕ)) {first last : ℕ} (r : RangeInclusive ℕ) → IsFromTo first last r → Adds (closed (λ y. y < bound) nat_cmp) old (r ∷ []) new → (x : ℕ) → x < bound → covers (closed (λ y. y < bound) nat_cmp) new x ≡ (covers (closed (λ y. y < bound) nat_cmp) old x || (nat_le first x && nat_le x last))
added_closed bound old new {first} {last} r ends adds x key =
    added (closed (λ y. y < bound) nat_cmp) old new r x key adds
    ∙ ap (λ b. covers (closed (λ y. y < bound) nat_cmp) old x || b) (closed_test bound r x ∙ ap (λ a. nat_le a x && nat_le x (range_inclusive_end r)) ends.0 ∙ ap (λ a. nat_le first x && nat_le x a) ends.1)

-- what the first ranges of a list cover, by one more of them, as a loop over a slice of ranges goes
pub covers_more : (ranges : List (Range ℕ)) (i : ℕ) (d : Range ℕ) → i < length ranges → (x : ℕ) → covers (half_open nat_cmp) (take (i + 1) ranges) x ≡ (covers (half_open nat_cmp) (take i ranges) x || (nat_le (get_or ranges i d).start x && nat_lt x (get_or ranges i d).end))
covers_more ranges i d l x =
    let r = get_or ranges i d in
    ap (λ rs. covers (half_open nat_cmp) rs x) (take_more ranges i d l)
    ∙ covers_append (half_open nat_cmp) (take i ranges) (r ∷ []) x
    ∙ ap (λ b. covers (half_open nat_cmp) (take i ranges) x || b) (alone_covers (half_open_test r x))
  where
    alone_covers : {b : Bool} → (half_open nat_cmp).holds (get_or ranges i d) x ≡ b → covers (half_open nat_cmp) (get_or ranges i d ∷ []) x ≡ b
    alone_covers {b} h = go ((half_open nat_cmp).holds (get_or ranges i d) x) refl ∙ h
      where
        go : (t : Bool) → (half_open nat_cmp).holds (get_or ranges i d) x ≡ t → covers (half_open nat_cmp) (get_or ranges i d ∷ []) x ≡ (half_open nat_cmp).holds (get_or ranges i d) x
        go true e = ap (λ t. is_some (cond t (Some (get_or ranges i d)) None)) e ∙ sym e
        go false e = ap (λ t. is_some (cond t (Some (get_or ranges i d)) None)) e ∙ sym e

-- a turn of a loop that adds such ranges to a set: what the set had, and the ranges so far, make it up
pub one_more_added : (old before here : Bool) {now more new : Bool} → now ≡ (old || before) → more ≡ (before || here) → new ≡ (now || here) → new ≡ (old || more)
one_more_added old before here h i j = grind (arith, h, i, j)

-- ---- the first gap of a range whose first number is free

alone : {V : Type 0} (list : List (Range ℕ × V)) (at : ℕ) → value_at (half_open nat_cmp) list at ≡ None → IsFreeBetween half_open_unsigned list at (at + 1)
alone {V} list at bare x from to = let same : at ≡ x = omega arith in let P : ℕ → Type 0 = λ y. value_at (half_open nat_cmp) list y ≡ None in subst P same bare

-- The gap has the first number of the range, lies within it, and from there on none of its numbers has a value; where it ends
-- before the range does, its end has one.
pub record IsFirstGap {V : Type 0} (list : List (Range ℕ × V)) (q : Range ℕ) (gap : Range ℕ) : Type 0 where
  pub starts : gap.start ≤ q.start
  pub forward : q.start < gap.end
  pub within : gap.end ≤ q.end
  pub free : (x : ℕ) → q.start ≤ x → x < gap.end → value_at (half_open nat_cmp) list x ≡ None
  pub ends : gap.end < q.end → value_at (half_open nat_cmp) list gap.end ≢ None

not_above : (a b : ℕ) → (a < b → ⊥) → b ≤ a
not_above a b h = grind arith

module _ {V : Type 0} (list : List (Range ℕ × V)) (q : Range ℕ) {result : Option (Result (Range ℕ) AllocError)} (asks : AsksForGaps (half_open nat_cmp) (map (λ pair. pair.0) list) q [] result) where
  -- of all gaps it is the first
  is_first : {item : Result (Range ℕ) AllocError} {gap : Range ℕ} → (result ≡ Some item) × (item ≡ Ok gap) → asks.all ≡ gap ∷ asks.asks.new
  is_first {gap = gap} given =
      let taken = subst (λ answer. GivesRange (half_open nat_cmp) asks.asks.left answer asks.asks.new) (given.0 ∙ ap Some given.1) asks.asks.step in
      let whole : asks.all ≡ taken.0 ∷ asks.asks.new = sym asks.asks.is ∙ asks.asks.so_far ∙ taken.1 in
      whole ∙ ap (λ r. r ∷ asks.asks.new) (exact_half_open taken.0 gap (subst (IsCanonicalSet (half_open nat_cmp)) whole asks.are.canonical).0.non_empty taken.2)

  -- and the number behind it, if it is one of the range, has a value, since gaps do not touch
  valued_behind : {item : Result (Range ℕ) AllocError} {gap : Range ℕ} → (result ≡ Some item) × (item ≡ Ok gap) → gap.start ≤ q.start → q.start < gap.end → gap.end < q.end → value_at (half_open nat_cmp) list gap.end ≢ None
  valued_behind {gap = gap} given at forward below none =
      let k = half_open nat_cmp in
      let here : Some gap ≡ range_at k asks.all q.start = sym (ap (λ rs. range_at k rs q.start) (is_first given) ∙ ap (λ b. cond b (Some gap) (range_at k asks.asks.new q.start)) (half_open_unsigned.holds gap q.start at forward)) in
      let run = set_run_found half_open_unsigned asks.all asks.are.canonical {x = q.start} tt here in
      let there = (gap_keys k list q asks.all asks.are).all gap.end tt (half_open_unsigned.holds q gap.end (omega (arith, forward)) below) none in
      true≢false (sym there ∙ run.ends tt)

  -- of half-open ranges: the first gap of a range whose first number has no value
  pub first_gap : {item : Result (Range ℕ) AllocError} {gap : Range ℕ} → (result ≡ Some item) × (item ≡ Ok gap) → q.start < q.end → value_at (half_open nat_cmp) list q.start ≡ None → IsFirstGap list q gap
  first_gap {item} {gap} given forward bare =
      let next = next_gap half_open_unsigned list q asks (All-nil (λ item. IsOkAnd item (λ gap. ⊥))) given in
      let above : q.start < gap.start → ⊥ = λ below. (next.earlier q.start (q.start + 1) (record { forward = omega arith; first_is_key = tt; last_is_key = tt }) (omega arith) (omega (arith, forward)) (alone list q.start bare) below).kept in
      let at : gap.start ≤ q.start = not_above q.start gap.start above in
      record {
        starts = at;
        forward = omega (arith, next.from, next.forward);
        within = next.to;
        free = λ x low high. next.free x (omega (arith, at, low)) high;
        ends = valued_behind given at (omega (arith, next.from, next.forward));
      }

  -- of half-open ranges: a range whose first number has no value has a gap
  pub some_gap : result ≡ None → q.start < q.end → value_at (half_open nat_cmp) list q.start ≡ None → ⊥
  some_gap none forward bare = (last_gap half_open_unsigned list q asks (All-nil (λ item. IsOkAnd item (λ gap. ⊥))) none q.start (q.start + 1) (record { forward = omega arith; first_is_key = tt; last_is_key = tt }) (omega arith) (omega (arith, forward)) (alone list q.start bare)).kept
