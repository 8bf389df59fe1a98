-- For callers: what `overlaps` and `overlapping` tell of the keys of a range, and the other way round, of maps and of sets. What a
-- query meets is said by the ends of the two ranges.
use Rattle.std.proofs.Common.{arith, ◌≡◌, ◌≢◌, ℕ, Bool, true, false, ◌&&◌, ap, ap₂, sym, refl, ◌∙◌, List, [], ◌∷◌, filter, is_some, length, nat_le, nat_lt, Option, is_le, is_lt, true≢false}
use Rattle.std.proofs.lemmas.Bool.Decides.{nat_tests}
use Rattle.std.specs.Ordering.{nat_cmp}
use Rattle.std.specs.Range.{range_inclusive_end, range_inclusive_start}
use Rattle.std.specs.declared.ops.Range.{Range}
use Rattle.std.specs.declared.ops.RangeInclusive.{RangeInclusive}
use Rattle.rangemap_core.specs.engine.Endpoints.{EndpointOf, IsPlaced}
use Rattle.rangemap_core.specs.Ranges.{IsCanonical, IsStorable, RangeKind, closed, covers, half_open, overlapped, unit_eq, value_at, with_unit}
use Rattle.rangemap_core.specs.Sets.{IsCanonicalSet, met}
use Rattle.rangemap_core.proofs.SetLemmas.{met_count, valued_where_covered}
use Rattle.rangemap.specs.DefinedIn.{IsDefinedIn}
use Rattle.rangemap_core.proofs.StoredKeyLemmas.{meets_where_shared, shared_where_meets}
use Rattle.rangemap.proofs.DefinedInLemmas.{none_meets_where_undefined, overlaps_some, defined_by_overlaps, undefined_by_overlaps}
use Rattle.rangemap.proofs.LoopLemmas.{LacksBetween}
use Rattle.rangemap.proofs.NumberKinds.{NumberKind, NumberOrder}
use Rattle.rangemap.proofs.NumberLemmas.{IsFreeBetween, IsHeldBetween}

-- ---- what a query meets, by the ends

lt_test : (a b : ℕ) → is_lt (nat_cmp a b) ≡ nat_lt a b
lt_test a b = grind (arith, nat_tests)

le_test : (a b : ℕ) → is_le (nat_cmp a b) ≡ nat_le a b
le_test a b = grind (arith, nat_tests)

-- of `a..b`: each starts before the other's end
pub half_open_meets : (q r : Range ℕ) → (half_open nat_cmp).meets q r ≡ (nat_lt q.start r.end && nat_lt r.start q.end)
half_open_meets q r = ap₂ (λ a b. a && b) (lt_test q.start r.end) (lt_test r.start q.end)

-- of `a..=b`: each starts at the other's end or before it
pub closed_meets : (is_key : ℕ → Type 0) (q r : RangeInclusive ℕ) → (closed is_key nat_cmp).meets q r ≡ (nat_le (range_inclusive_start q) (range_inclusive_end r) && nat_le (range_inclusive_start r) (range_inclusive_end q))
closed_meets is_key q r = ap₂ (λ a b. a && b) (le_test (range_inclusive_start q) (range_inclusive_end r)) (le_test (range_inclusive_start r) (range_inclusive_end q))

-- what a query overlaps are the pairs that it meets, in order
pub overlapped_half_open : {V : Type 0} (list : List (Range ℕ × V)) (q : Range ℕ) → overlapped (half_open nat_cmp) list q ≡ filter (λ p. nat_lt q.start p.0.end && nat_lt p.0.start q.end) list
overlapped_half_open list q = λ i. filter (λ p. half_open_meets q p.0 i) list

pub overlapped_closed : {V : Type 0} (is_key : ℕ → Type 0) (list : List (RangeInclusive ℕ × V)) (q : RangeInclusive ℕ) → overlapped (closed is_key nat_cmp) list q ≡ filter (λ p. nat_le (range_inclusive_start q) (range_inclusive_end p.0) && nat_le (range_inclusive_start p.0) (range_inclusive_end q)) list
overlapped_closed is_key list q = λ i. filter (λ p. closed_meets is_key q p.0 i) list

-- so are the ranges of a set
pub met_half_open : (set : List (Range ℕ)) (q : Range ℕ) → met (half_open nat_cmp) set q ≡ filter (λ r. nat_lt q.start r.end && nat_lt r.start q.end) set
met_half_open set q = λ i. filter (λ r. half_open_meets q r i) set

pub met_closed : (is_key : ℕ → Type 0) (set : List (RangeInclusive ℕ)) (q : RangeInclusive ℕ) → met (closed is_key nat_cmp) set q ≡ filter (λ r. nat_le (range_inclusive_start q) (range_inclusive_end r) && nat_le (range_inclusive_start r) (range_inclusive_end q)) set
met_closed is_key set q = λ i. filter (λ r. closed_meets is_key q r i) set

pub at_most_then_below : {K : Type 0} (order : NumberOrder K) (x y z : K) → order.IsAtMost x y → order.IsBelow y z → order.IsBelow x z
at_most_then_below order x y z from to = order.below_trans x (order.next y) z (order.below_next x y from) (order.next_at_most y z to)

module _ {K X : Type 0} (n : NumberKind K X) (q r : X) (asked : IsStorable n.kind q) (stored : IsStorable n.kind r) where
  -- of any kind of numbers: two ranges that meet start each before the number behind the other
  pub meets_by_ends : n.kind.meets q r ≡ true → n.order.IsBelow (n.kind.start q) (n.behind r) × n.order.IsBelow (n.kind.start r) (n.behind q)
  meets_by_ends h =
      let one = shared_where_meets n.placed q r asked stored h in (
        at_most_then_below n.order (n.kind.start q) one.0 (n.behind r) (n.from q one.0 one.2) (n.to r one.0 one.3),
        at_most_then_below n.order (n.kind.start r) one.0 (n.behind q) (n.from r one.0 one.3) (n.to q one.0 one.2),
      )

  -- and two that have a number in common meet
  pub meets_where_both : (x : K) → n.order.IsAtMost (n.kind.start q) x → n.order.IsBelow x (n.behind q) → n.order.IsAtMost (n.kind.start r) x → n.order.IsBelow x (n.behind r) → n.kind.meets q r ≡ true
  meets_where_both x from to at up = let holds = n.holds q x from to in meets_where_shared n.placed q r x asked stored (n.is_key q x asked holds) holds (n.holds r x at up)

-- ---- maps

module _ {K X V : Type 0} (n : NumberKind K X) (eq : V → V → Bool) (list : List (X × V)) (can : IsCanonical n.kind eq list) (q : X) (stored : IsStorable n.kind q) where
  -- where some number of the range has a value, `overlaps` is true
  pub overlaps_where_held : IsHeldBetween n list (n.kind.start q) (n.behind q) → nat_lt 0 (length (overlapped n.kind list q)) ≡ true
  overlaps_where_held held =
      let holds = n.holds q held.at held.from held.to in
      overlaps_some n.placed eq q stored list can (record { key = held.at; is_key = n.is_key q held.at stored holds; holds = holds; value = held.value; is = held.is })

  -- where none has, nothing meets it
  pub none_meets_where_free : IsFreeBetween n list (n.kind.start q) (n.behind q) → overlapped n.kind list q ≡ []
  none_meets_where_free free = none_meets_where_undefined n.placed eq q stored list can (λ x key holds. free x (n.from q x holds) (n.to q x holds))

  -- and `overlaps` is false
  pub apart_where_free : IsFreeBetween n list (n.kind.start q) (n.behind q) → nat_lt 0 (length (overlapped n.kind list q)) ≡ false
  apart_where_free free = ap (λ pairs. nat_lt 0 (length pairs)) (none_meets_where_free free)

-- ---- sets, of any kind of range

-- The set has a key of the range.
pub record HasKeyOf {K X : Type 0} (k : RangeKind K X) (set : List X) (range : X) : Type 0 where
  pub key : K
  pub is_key : k.is_key key
  pub holds : k.holds range key ≡ true
  pub covered : covers k set key ≡ true

module _ {K X : Type 0} {k : RangeKind K X} {end_place : X → Option K} {part : EndpointOf X → EndpointOf X → X} (p : IsPlaced k end_place part) (set : List X) (can : IsCanonicalSet k set) (q : X) (stored : IsStorable k q) where
  -- `overlaps` is false: the set has no key of the range
  pub lacks_keys_by_overlaps : nat_lt 0 (length (met k set q)) ≡ false → (x : K) → k.is_key x → k.holds q x ≡ true → covers k set x ≡ false
  lacks_keys_by_overlaps h x key holds =
      sym (valued_where_covered k set x)
      ∙ ap is_some (undefined_by_overlaps p (unit_eq k) q stored (with_unit k set) can (ap (λ n. nat_lt 0 n) (met_count k set q) ∙ h) x key holds)

  -- it is true: the set has one
  pub has_key_by_overlaps : nat_lt 0 (length (met k set q)) ≡ true → HasKeyOf k set q
  has_key_by_overlaps h =
      let one : IsDefinedIn k (value_at k (with_unit k set)) q = defined_by_overlaps p (unit_eq k) q stored (with_unit k set) can (ap (λ n. nat_lt 0 n) (met_count k set q) ∙ h) in
      record { key = one.key; is_key = one.is_key; holds = one.holds; covered = sym (valued_where_covered k set one.key) ∙ ap is_some one.is }

  -- the set has one: `overlaps` is true
  pub overlaps_by_key : HasKeyOf k set q → nat_lt 0 (length (met k set q)) ≡ true
  overlaps_by_key one = go (nat_lt 0 (length (met k set q))) refl
    where
      go : (b : Bool) → nat_lt 0 (length (met k set q)) ≡ b → b ≡ true
      go true h = refl
      go false h = absurd (true≢false (sym one.covered ∙ lacks_keys_by_overlaps h one.key one.is_key one.holds))

  -- it has none: nothing meets the range
  pub none_met_where_lacks_keys : ((x : K) → k.is_key x → k.holds q x ≡ true → covers k set x ≡ false) → met k set q ≡ []
  none_met_where_lacks_keys lacks = empty (met k set q) (go (nat_lt 0 (length (met k set q))) refl)
    where
      go : (b : Bool) → nat_lt 0 (length (met k set q)) ≡ b → b ≡ false
      go true h = let one = has_key_by_overlaps h in absurd (true≢false (sym one.covered ∙ lacks one.key one.is_key one.holds))
      go false h = refl

      empty : (ranges : List X) → nat_lt 0 (length ranges) ≡ false → ranges ≡ []
      empty [] h = refl
      empty (r ∷ ranges) h = absurd (grind (arith, nat_tests, h))

-- ---- sets of numbers

-- The set has a number from the first up to, and without, the second.
pub record HasBetween {K X : Type 0} (n : NumberKind K X) (set : List X) (first past : K) : Type 0 where
  pub at : K
  pub from : n.order.IsAtMost first at
  pub to : n.order.IsBelow at past
  pub covered : covers n.kind set at ≡ true

module _ {K X : Type 0} (n : NumberKind K X) (set : List X) (can : IsCanonicalSet n.kind set) (q : X) (stored : IsStorable n.kind q) where
  pub lacks_by_overlaps : nat_lt 0 (length (met n.kind set q)) ≡ false → LacksBetween n set (n.kind.start q) (n.behind q)
  lacks_by_overlaps h x from to = let holds = n.holds q x from to in lacks_keys_by_overlaps n.placed set can q stored h x (n.is_key q x stored holds) holds

  pub has_by_overlaps : nat_lt 0 (length (met n.kind set q)) ≡ true → HasBetween n set (n.kind.start q) (n.behind q)
  has_by_overlaps h = let one = has_key_by_overlaps n.placed set can q stored h in record { at = one.key; from = n.from q one.key one.holds; to = n.to q one.key one.holds; covered = one.covered }

  pub overlaps_where_has : HasBetween n set (n.kind.start q) (n.behind q) → nat_lt 0 (length (met n.kind set q)) ≡ true
  overlaps_where_has one = let holds = n.holds q one.at one.from one.to in overlaps_by_key n.placed set can q stored (record { key = one.at; is_key = n.is_key q one.at stored holds; holds = holds; covered = one.covered })

  pub none_met_where_lacks : LacksBetween n set (n.kind.start q) (n.behind q) → met n.kind set q ≡ []
  none_met_where_lacks lacks = none_met_where_lacks_keys n.placed set can q stored (λ x key holds. lacks x (n.from q x holds) (n.to q x holds))

  pub apart_where_lacks : LacksBetween n set (n.kind.start q) (n.behind q) → nat_lt 0 (length (met n.kind set q)) ≡ false
  apart_where_lacks lacks = ap (λ ranges. nat_lt 0 (length ranges)) (none_met_where_lacks lacks)

  -- where it is said by the list, as `meets_nothing` of a remove does
  pub lacks_where_none_meets : met n.kind set q ≡ [] → LacksBetween n set (n.kind.start q) (n.behind q)
  lacks_where_none_meets h = lacks_by_overlaps (ap (λ ranges. nat_lt 0 (length ranges)) h)

  pub has_where_one_meets : met n.kind set q ≢ [] → HasBetween n set (n.kind.start q) (n.behind q)
  has_where_one_meets h = has_by_overlaps (some_there (met n.kind set q) h)
    where
      some_there : (ranges : List X) → ranges ≢ [] → nat_lt 0 (length ranges) ≡ true
      some_there [] h = absurd (h refl)
      some_there (r ∷ ranges) h = grind (arith, nat_tests)

pub not_lacks_and_has : {K X : Type 0} (n : NumberKind K X) (set : List X) {first past : K} (h : HasBetween n set first past) → covers n.kind set h.at ≡ false → ⊥
not_lacks_and_has n set h none = true≢false (sym h.covered ∙ none)
