-- For callers that ask for the first gap of a range, without a loop: of maps and of sets, and of each kind of numbers. Of half-open
-- ranges of a map `first_gap` of `SetNumberLemmas` says it in fewer words.
use Rattle.std.proofs.Common.{◌≡◌, ◌≢◌, ◌∙◌, ◌∷◌, [], ap, cond, map, refl, subst, sym, Bool, true, false, is_le, is_lt, is_some, option_map, IsOkAnd, List, Option, Some, None, Ordering, Less, Equal, Greater, Result, Ok, true≢false}
use Rattle.std.proofs.lemmas.List.Elements.{All-nil}
use Rattle.std.specs.Bool.{⊤}
use Rattle.std.specs.declared.alloc.AllocError.{AllocError}
use Rattle.rangemap_core.specs.laws.Orders.{le_Equal, le_Less, turn}
use Rattle.rangemap_core.specs.MadeRanges.{GivesRange}
use Rattle.rangemap_core.specs.Ranges.{IsStorable, covers, unit_eq, value_at, with_unit}
use Rattle.rangemap_core.specs.Sets.{IsCanonicalSet, range_at}
use Rattle.rangemap_core.proofs.SetLemmas.{valued_where_covered}
use Rattle.rangemap_core.proofs.StoredKeyLemmas.{holds_start, none_before}
use Rattle.rangemap.proofs.CallerLemmas.{gap_keys}
use Rattle.rangemap.proofs.LoopLemmas.{IsExact, LacksBetween, gaps_of_pairs}
use Rattle.rangemap.proofs.Loops.{AsksForGaps}
use Rattle.rangemap.proofs.NumberKinds.{NumberKind, NumberOrder}
use Rattle.rangemap.proofs.NumberLemmas.{IsFreeBetween, next_gap}
use Rattle.rangemap.proofs.OverlapLemmas.{at_most_then_below}
use Rattle.rangemap.proofs.SetCallerLemmas.{set_run_found}

le_from_lt : (r : Ordering) → is_lt r ≡ true → is_le r ≡ true
le_from_lt Less h = refl
le_from_lt Equal h = absurd (true≢false (sym h))
le_from_lt Greater h = absurd (true≢false (sym h))

below_at_most : {K : Type 0} (order : NumberOrder K) (x y : K) → order.IsBelow x y → order.IsAtMost x y
below_at_most order x y below = order.at_most x y (le_from_lt (order.cmp x y) (order.by_below x y below))

-- The gap has the first number of the range, lies within it, and from there on none of its numbers has a value; where it ends before
-- the range does, the number behind it has one.
pub record IsFirstGapOf {K X V : Type 0} (n : NumberKind K X) (list : List (X × V)) (q : X) (gap : X) : Type 0 where
  pub stored : IsStorable n.kind gap
  pub starts : n.order.IsAtMost (n.kind.start gap) (n.kind.start q)
  pub forward : n.order.IsBelow (n.kind.start q) (n.behind gap)
  pub within : n.order.IsAtMost (n.behind gap) (n.behind q)
  pub free : IsFreeBetween n list (n.kind.start q) (n.behind gap)
  pub ends : n.order.IsBelow (n.behind gap) (n.behind q) → value_at n.kind list (n.behind gap) ≢ None

module _ {K X V : Type 0} (n : NumberKind K X) (exact : IsExact n.kind) (list : List (X × V)) (q : X) (stored : IsStorable n.kind q) {result : Option (Result X AllocError)} (asks : AsksForGaps n.kind (map (λ pair. pair.0) list) q [] result) (bare : value_at n.kind list (n.kind.start q) ≡ None) where
  start_in_gaps : covers n.kind asks.all (n.kind.start q) ≡ true
  start_in_gaps = (gap_keys n.kind list q asks.all asks.are).all (n.kind.start q) stored.start_is_key (holds_start n.placed q stored) bare

  -- of all gaps it is the first
  is_first : {item : Result X AllocError} {gap : X} → (result ≡ Some item) × (item ≡ Ok gap) → asks.all ≡ gap ∷ asks.asks.new
  is_first {gap = gap} given =
      let taken = subst (λ answer. GivesRange n.kind asks.asks.left answer asks.asks.new) (given.0 ∙ ap Some given.1) asks.asks.step in
      let whole : asks.all ≡ taken.0 ∷ asks.asks.new = sym asks.asks.is ∙ asks.asks.so_far ∙ taken.1 in
      whole ∙ ap (λ r. r ∷ asks.asks.new) (exact taken.0 gap (subst (IsCanonicalSet n.kind) whole asks.are.canonical).0.non_empty taken.2)

  not_later : (gap : X) (rest : List X) → asks.all ≡ gap ∷ rest → n.kind.cmp (n.kind.start q) (n.kind.start gap) ≡ Less → ⊥
  not_later gap rest whole early =
      let none = none_before n.placed (unit_eq n.kind) (gap, tt) (with_unit n.kind rest) (n.kind.start q) (subst (IsCanonicalSet n.kind) whole asks.are.canonical) stored.start_is_key early in
      true≢false (sym start_in_gaps ∙ ap (λ rs. covers n.kind rs (n.kind.start q)) whole ∙ sym (valued_where_covered n.kind (gap ∷ rest) (n.kind.start q)) ∙ ap (λ (o : Option (X × ⊤)). is_some (option_map (λ (pair : X × ⊤). pair.1) o)) none)

  -- so it starts no later than the range
  no_later : (gap : X) (rest : List X) → asks.all ≡ gap ∷ rest → n.order.IsAtMost (n.kind.start gap) (n.kind.start q)
  no_later gap rest whole = n.starts_within q gap (go (n.kind.cmp (n.kind.start gap) (n.kind.start q)) refl)
    where
      go : (c : Ordering) → n.kind.cmp (n.kind.start gap) (n.kind.start q) ≡ c → is_le (n.kind.cmp (n.kind.start gap) (n.kind.start q)) ≡ true
      go Less e = le_Less e
      go Equal e = le_Equal e
      go Greater e = absurd (not_later gap rest whole (turn n.placed.total e))

  -- and the number behind it, if it is one of the range, has a value, since gaps do not touch
  ends_at_value : (gap : X) (rest : List X) → asks.all ≡ gap ∷ rest → n.order.IsAtMost (n.kind.start gap) (n.kind.start q) → n.order.IsBelow (n.kind.start q) (n.behind gap) → n.order.IsBelow (n.behind gap) (n.behind q) → value_at n.kind list (n.behind gap) ≢ None
  ends_at_value gap rest whole at forward below none =
      let here : Some gap ≡ range_at n.kind asks.all (n.kind.start q) = sym (ap (λ rs. range_at n.kind rs (n.kind.start q)) whole ∙ ap (λ b. cond b (Some gap) (range_at n.kind rest (n.kind.start q))) (n.holds gap (n.kind.start q) at forward)) in
      let run = set_run_found n asks.all asks.are.canonical {x = n.kind.start q} stored.start_is_key here in
      let holds = n.holds q (n.behind gap) (below_at_most n.order (n.kind.start q) (n.behind gap) forward) below in
      let key = n.is_key q (n.behind gap) stored holds in
      true≢false (sym ((gap_keys n.kind list q asks.all asks.are).all (n.behind gap) key holds none) ∙ run.ends key)

  -- the first gap of a range whose first number has no value
  pub first_gap_of : {item : Result X AllocError} {gap : X} → (result ≡ Some item) × (item ≡ Ok gap) → IsFirstGapOf n list q gap
  first_gap_of {item} {gap} given =
      let next = next_gap n list q asks (All-nil (λ item. IsOkAnd item (λ gap. ⊥))) given in
      let whole = is_first given in
      let at = no_later gap asks.asks.new whole in
      let forward = at_most_then_below n.order (n.kind.start q) (n.kind.start gap) (n.behind gap) next.from next.forward in
      record {
        stored = next.stored;
        starts = at;
        forward = forward;
        within = next.to;
        free = λ x low high. next.free x (n.order.trans (n.kind.start gap) (n.kind.start q) x at low) high;
        ends = ends_at_value gap asks.asks.new whole at forward;
      }

  -- and there is one
  pub some_gap_of : result ≡ None → ⊥
  some_gap_of none =
      let ended : asks.asks.left ≡ [] = (subst (λ answer. GivesRange n.kind asks.asks.left answer asks.asks.new) none asks.asks.step).0 in
      true≢false (sym start_in_gaps ∙ ap (λ rs. covers n.kind rs (n.kind.start q)) (sym asks.asks.is ∙ asks.asks.so_far ∙ ended))

-- ---- sets

-- The same of a set, which lacks the numbers.
pub record IsFirstSetGap {K X : Type 0} (n : NumberKind K X) (set : List X) (q : X) (gap : X) : Type 0 where
  pub stored : IsStorable n.kind gap
  pub starts : n.order.IsAtMost (n.kind.start gap) (n.kind.start q)
  pub forward : n.order.IsBelow (n.kind.start q) (n.behind gap)
  pub within : n.order.IsAtMost (n.behind gap) (n.behind q)
  pub lacks : LacksBetween n set (n.kind.start q) (n.behind gap)
  pub ends : n.order.IsBelow (n.behind gap) (n.behind q) → covers n.kind set (n.behind gap) ≡ true

module _ {K X : Type 0} (n : NumberKind K X) (exact : IsExact n.kind) (set : List X) (q : X) (stored : IsStorable n.kind q) {result : Option (Result X AllocError)} (asks : AsksForGaps n.kind set q [] result) (bare : covers n.kind set (n.kind.start q) ≡ false) where
  as_pairs : AsksForGaps n.kind (map (λ pair. pair.0) (with_unit n.kind set)) q [] result
  as_pairs = record { all = asks.all; are = gaps_of_pairs n.kind set q asks.all asks.are; asks = asks.asks }

  no_value : (x : K) → covers n.kind set x ≡ false → value_at n.kind (with_unit n.kind set) x ≡ None
  no_value x h = is_none (value_at n.kind (with_unit n.kind set) x) (valued_where_covered n.kind set x ∙ h)
    where
      is_none : (o : Option ⊤) → is_some o ≡ false → o ≡ None
      is_none None h = refl
      is_none (Some u) h = absurd (true≢false h)

  has_value : (x : K) → value_at n.kind (with_unit n.kind set) x ≢ None → covers n.kind set x ≡ true
  has_value x h = by (covers n.kind set x) refl
    where
      by : (b : Bool) → covers n.kind set x ≡ b → b ≡ true
      by true e = refl
      by false e = absurd (h (no_value x e))

  pub first_set_gap : {item : Result X AllocError} {gap : X} → (result ≡ Some item) × (item ≡ Ok gap) → IsFirstSetGap n set q gap
  first_set_gap {gap = gap} given =
      let first = first_gap_of n exact (with_unit n.kind set) q stored as_pairs (no_value (n.kind.start q) bare) given in
      record {
        stored = first.stored;
        starts = first.starts;
        forward = first.forward;
        within = first.within;
        lacks = λ x low high. sym (valued_where_covered n.kind set x) ∙ ap is_some (first.free x low high);
        ends = λ below. has_value (n.behind gap) (first.ends below);
      }

  pub some_set_gap : result ≡ None → ⊥
  some_set_gap none = some_gap_of n exact (with_unit n.kind set) q stored as_pairs (no_value (n.kind.start q) bare) none
