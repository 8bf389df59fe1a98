-- Kinds of ranges of numbers, for callers: `a..b` and `a..=b`, of unsigned and of signed numbers. The
-- lemmas of `NumberLemmas` are said once, of each of them.
use Rattle.std.proofs.Common.{arith, ◌≡◌, ℕ, ◌+◌, ◌-◌, ◌<◌, ◌≤◌, true, false, cond, Option, Some, None, Ordering, Less, Equal, Greater, is_lt, is_le, refl, sym, ap, subst, true≢false}
use Rattle.std.proofs.lemmas.Bool.{lt-ltb, and_from}
use Rattle.std.proofs.lemmas.Bool.Decides.{nat_tests}
use Rattle.std.proofs.lemmas.Cmp.{int_cmp_total}
use Rattle.std.proofs.lemmas.Int.{ints}
use Rattle.std.proofs.lemmas.Map.Keys.{le_from_is_le}
use Rattle.std.specs.Cmp.{IsTotalOrder, int_cmp_is, int_ranked, nat_cmp_is, nat_cmp_total, first_so, second_so}
use Rattle.std.specs.Ordering.{int_cmp, nat_cmp}
use Rattle.std.specs.Prelude.{ℤ, pos, ◌+ℤ◌, ◌-ℤ◌, ◌<ℤ◌, ◌≤ℤ◌, int_lt}
use Rattle.std.specs.Range.{range_inclusive_end, range_inclusive_exhausted, range_inclusive_start}
use Rattle.std.specs.declared.ops.Range.{Range}
use Rattle.std.specs.declared.ops.RangeInclusive.{RangeInclusive}
use Rattle.rangemap_core.specs.Ranges.{IsStorable, RangeKind, closed, half_open}
use Rattle.rangemap_core.specs.Steps.{GivesPredecessors, GivesSuccessors}
use Rattle.rangemap_core.specs.engine.EndpointKinds.{half_open_part, half_open_placed, lt_is}
use Rattle.rangemap_core.specs.engine.Endpoints.{EndpointOf, IsPlaced}
use Rattle.rangemap_core.specs.engine.PlacedKinds.{half_open_end_place}
use Rattle.rangemap_core.specs.engine.Places.{place_cmp}
use Rattle.rangemap_core.specs.laws.Orders.{itself}
use Rattle.rangemap_core.specs.engine.ClosedEndpoints.{closed_part, closed_placed}
use Rattle.rangemap_core.specs.engine.ClosedPlaces.{closed_end_place}
use Rattle.rangemap.specs.StepLaws.{IsSigned, int_after, int_before, int_follows, int_precedes, nat_after, nat_before, nat_follows, nat_precedes}

-- ---- the order of numbers

-- Numbers with their order, `≤` and `<`, and the numbers before and behind one.
pub record NumberOrder (K : Type 0) : Type 1 where
  pub cmp : K → K → Ordering
  pub total : IsTotalOrder cmp
  pub IsAtMost : K → K → Type 0
  pub IsBelow : K → K → Type 0
  pub next : K → K
  pub last : K → K
  pub at_most : (x y : K) → is_le (cmp x y) ≡ true → IsAtMost x y
  pub by_at_most : (x y : K) → IsAtMost x y → is_le (cmp x y) ≡ true
  pub below : (x y : K) → is_lt (cmp x y) ≡ true → IsBelow x y
  pub by_below : (x y : K) → IsBelow x y → is_lt (cmp x y) ≡ true
  pub not_both : (x y : K) → IsBelow x y → IsAtMost y x → ⊥
  pub trans : (x y z : K) → IsAtMost x y → IsAtMost y z → IsAtMost x z
  pub below_trans : (x y z : K) → IsBelow x y → IsAtMost y z → IsBelow x z
  pub below_next : (x y : K) → IsAtMost x y → IsBelow x (next y)
  pub from_next : (x y : K) → IsBelow x (next y) → IsAtMost x y
  pub next_at_most : (x y : K) → IsBelow x y → IsAtMost (next x) y
  pub to_last : (x y : K) → IsBelow x y → IsAtMost x (last y)
  pub last_below : (x y : K) → IsBelow x y → IsBelow (last y) y
  pub last_then_next : (x y : K) → IsBelow x y → next (last y) ≡ y

pub nat_by_at_most : (x y : ℕ) → x ≤ y → is_le (nat_cmp x y) ≡ true
nat_by_at_most x y h = grind (arith, nat_tests)

pub nat_below : (x y : ℕ) → is_lt (nat_cmp x y) ≡ true → x < y
nat_below x y h = grind (arith, nat_tests)

pub nat_not_both : (x y : ℕ) → x < y → y ≤ x → ⊥
nat_not_both x y h k = omega arith

-- unsigned numbers
abbrev pub unsigned : NumberOrder ℕ
unsigned = record {
  cmp = nat_cmp;
  total = nat_cmp_total;
  IsAtMost = λ x y. x ≤ y;
  IsBelow = λ x y. x < y;
  next = λ x. x + 1;
  last = λ x. x - 1;
  at_most = λ x y h. le_from_is_le x y h;
  by_at_most = nat_by_at_most;
  below = nat_below;
  by_below = λ x y h. ap is_lt (sym (nat_cmp_is x y Less h));
  not_both = nat_not_both;
  trans = λ x y z h k. omega arith;
  below_trans = λ x y z h k. omega arith;
  below_next = λ x y h. omega arith;
  from_next = λ x y h. omega arith;
  next_at_most = λ x y h. omega arith;
  to_last = λ x y h. omega arith;
  last_below = λ x y h. omega arith;
  last_then_next = λ x y h. omega arith;
}

pub int_at_most : (x y : ℤ) → is_le (int_cmp x y) ≡ true → x ≤ℤ y
int_at_most x y h = go (int_cmp x y) refl h
  where
    go : (r : Ordering) → int_cmp x y ≡ r → is_le r ≡ true → x ≤ℤ y
    go Less e t = let l : x <ℤ y = int_ranked x y Less (sym e) in omega (arith, ints)
    go Equal e t = let l : x ≡ y = int_ranked x y Equal (sym e) in omega (arith, ints)
    go Greater e t = absurd (true≢false (sym t))

pub int_not_both : (x y : ℤ) → x <ℤ y → y ≤ℤ x → ⊥
int_not_both x y h k = omega (arith, ints)

pub int_by_at_most : (x y : ℤ) → x ≤ℤ y → is_le (int_cmp x y) ≡ true
int_by_at_most x y h = go (int_cmp x y) refl
  where
    go : (r : Ordering) → int_cmp x y ≡ r → is_le r ≡ true
    go Less e = refl
    go Equal e = refl
    go Greater e = absurd (int_not_both y x (int_ranked x y Greater (sym e)) h)

pub int_trans : (x y z : ℤ) → x ≤ℤ y → y ≤ℤ z → x ≤ℤ z
int_trans x y z h k = omega (arith, ints)

pub int_below_trans : (x y z : ℤ) → x <ℤ y → y ≤ℤ z → x <ℤ z
int_below_trans x y z h k = omega (arith, ints)

pub int_below_next : (x y : ℤ) → x ≤ℤ y → x <ℤ (y +ℤ pos 1)
int_below_next x y h = omega (arith, ints)

pub int_from_next : (x y : ℤ) → x <ℤ (y +ℤ pos 1) → x ≤ℤ y
int_from_next x y h = omega (arith, ints)

pub int_next_at_most : (x y : ℤ) → x <ℤ y → (x +ℤ pos 1) ≤ℤ y
int_next_at_most x y h = omega (arith, ints)

pub int_to_last : (x y : ℤ) → x <ℤ y → x ≤ℤ (y -ℤ pos 1)
int_to_last x y h = omega (arith, ints)

pub int_last_below : (y : ℤ) → (y -ℤ pos 1) <ℤ y
int_last_below y = omega (arith, ints)

pub int_last_then_next : (y : ℤ) → ((y -ℤ pos 1) +ℤ pos 1) ≡ y
int_last_then_next y = omega (arith, ints)

-- signed numbers
abbrev pub signed : NumberOrder ℤ
signed = record {
  cmp = int_cmp;
  total = int_cmp_total;
  IsAtMost = λ x y. x ≤ℤ y;
  IsBelow = λ x y. x <ℤ y;
  next = λ x. x +ℤ pos 1;
  last = λ x. x -ℤ pos 1;
  at_most = int_at_most;
  by_at_most = int_by_at_most;
  below = λ x y h. int_ranked x y Less (sym (lt_is (int_cmp x y) h));
  by_below = λ x y h. ap is_lt (sym (int_cmp_is x y Less h));
  not_both = int_not_both;
  trans = int_trans;
  below_trans = int_below_trans;
  below_next = int_below_next;
  from_next = int_from_next;
  next_at_most = int_next_at_most;
  to_last = int_to_last;
  last_below = λ x y h. int_last_below y;
  last_then_next = λ x y h. int_last_then_next y;
}

-- ---- kinds of ranges of numbers

-- A kind of ranges of numbers. A range has the numbers from its start up to, and without, `behind`,
-- the number behind its last. `stretch` is the range from one number up to another.
pub record NumberKind (K X : Type 0) : Type 1 where
  pub order : NumberOrder K
  pub kind : RangeKind K X
  pub end_place : X → Option K
  pub part : EndpointOf X → EndpointOf X → X
  -- what the lemmas of `CallerLemmas` ask of a kind as `p`
  pub placed : IsPlaced kind end_place part
  pub behind : X → K
  pub stretch : K → K → X
  pub holds : (r : X) (x : K) → order.IsAtMost (kind.start r) x → order.IsBelow x (behind r) → kind.holds r x ≡ true
  pub from : (r : X) (x : K) → kind.holds r x ≡ true → order.IsAtMost (kind.start r) x
  pub to : (r : X) (x : K) → kind.holds r x ≡ true → order.IsBelow x (behind r)
  pub is_key : (r : X) (x : K) → IsStorable kind r → kind.holds r x ≡ true → kind.is_key x
  pub less : (x y : K) → order.IsBelow x y → kind.cmp x y ≡ Less
  pub ends : (r : X) → kind.is_key (behind r) → place_cmp kind.cmp (Some (behind r)) (end_place r) ≡ Equal
  pub starts_within : (r s : X) → is_le (kind.cmp (kind.start s) (kind.start r)) ≡ true → order.IsAtMost (kind.start s) (kind.start r)
  pub ends_within : (r s : X) → is_le (kind.cmp (kind.end r) (kind.end s)) ≡ true → order.IsAtMost (behind r) (behind s)
  -- a range whose keys are keys of another ends no later
  pub lies_within : (r s : X) → IsStorable kind r → ((x : K) → kind.is_key x → kind.holds r x ≡ true → kind.holds s x ≡ true) → order.IsAtMost (behind r) (behind s)
  pub storable : (x y : K) → order.IsBelow x y → kind.is_key x → kind.is_key (order.last y) → IsStorable kind (stretch x y)
  pub starts : (x y : K) → kind.start (stretch x y) ≡ x
  pub stops : (x y : K) → order.IsBelow x y → behind (stretch x y) ≡ y

module _ {K : Type 0} (order : NumberOrder K) where
  pub half_open_from : (r : Range K) (x : K) → (half_open order.cmp).holds r x ≡ true → order.IsAtMost r.start x
  half_open_from r x h = order.at_most r.start x (first_so (is_le (order.cmp r.start x)) (is_lt (order.cmp x r.end)) h)

  pub half_open_to : (r : Range K) (x : K) → (half_open order.cmp).holds r x ≡ true → order.IsBelow x r.end
  half_open_to r x h = order.below x r.end (second_so (is_le (order.cmp r.start x)) (is_lt (order.cmp x r.end)) h)

  pub half_open_holds : (r : Range K) (x : K) → order.IsAtMost r.start x → order.IsBelow x r.end → (half_open order.cmp).holds r x ≡ true
  half_open_holds r x from to = and_from (is_le (order.cmp r.start x)) (is_lt (order.cmp x r.end)) (order.by_at_most r.start x from) (order.by_below x r.end to)

  pub half_open_within : (r s : Range K) → IsStorable (half_open order.cmp) r → ((x : K) → Unit {0} → (half_open order.cmp).holds r x ≡ true → (half_open order.cmp).holds s x ≡ true) → order.IsAtMost r.end s.end
  half_open_within r s stored each =
      let forward = order.below r.start r.end (ap is_lt stored.non_empty) in
      let holds = half_open_holds r (order.last r.end) (order.to_last r.start r.end forward) (order.last_below r.start r.end forward) in
      subst (λ x. order.IsAtMost x s.end) (order.last_then_next r.start r.end forward) (order.next_at_most (order.last r.end) s.end (half_open_to s (order.last r.end) (each (order.last r.end) tt holds)))

  -- a range `a..b` may be stored where it has a number
  pub half_open_storable : (r : Range K) → order.IsBelow r.start r.end → IsStorable (half_open order.cmp) r
  half_open_storable r forward = record { start_is_key = tt; end_is_key = tt; non_empty = lt_is (order.cmp r.start r.end) (order.by_below r.start r.end forward) }

  -- ranges `a..b` of numbers of this order
  abbrev pub half_open_kind : NumberKind K (Range K)
  half_open_kind = record {
    order = order;
    kind = half_open order.cmp;
    end_place = half_open_end_place;
    part = half_open_part;
    placed = half_open_placed order.total;
    behind = λ r. r.end;
    stretch = λ x y. record { start = x; end = y };
    holds = half_open_holds;
    from = half_open_from;
    to = half_open_to;
    is_key = λ r x stored h. tt;
    less = λ x y h. lt_is (order.cmp x y) (order.by_below x y h);
    ends = λ r key. itself order.total r.end;
    starts_within = λ r s h. order.at_most s.start r.start h;
    ends_within = λ r s h. order.at_most r.end s.end h;
    lies_within = half_open_within;
    storable = λ x y forward first last. record { start_is_key = tt; end_is_key = tt; non_empty = lt_is (order.cmp x y) (order.by_below x y forward) };
    starts = λ x y. refl;
    stops = λ x y forward. refl;
  }

-- The keys are the numbers of an interval, and `after` and `before` give the next and the last of
-- them.
pub record IsInterval {K : Type 0} (order : NumberOrder K) (is_key : K → Type 0) (after before : K → Option K) : Type 0 where
  pub convex : (x y z : K) → is_key x → is_key z → order.IsAtMost x y → order.IsAtMost y z → is_key y
  pub follows : GivesSuccessors is_key order.cmp after
  pub precedes : GivesPredecessors is_key order.cmp before
  pub after_is : (x : K) → is_key (order.next x) → after x ≡ Some (order.next x)

module _ {K : Type 0} (order : NumberOrder K) (is_key : K → Type 0) where
  -- the keys of such a range, by its two ends
  pub closed_from : (r : RangeInclusive K) (x : K) → (closed is_key order.cmp).holds r x ≡ true → order.IsAtMost (range_inclusive_start r) x
  closed_from r x h = order.at_most (range_inclusive_start r) x (first_so (is_le (order.cmp (range_inclusive_start r) x)) (is_le (order.cmp x (range_inclusive_end r))) h)

  pub closed_to : (r : RangeInclusive K) (x : K) → (closed is_key order.cmp).holds r x ≡ true → order.IsAtMost x (range_inclusive_end r)
  closed_to r x h = order.at_most x (range_inclusive_end r) (second_so (is_le (order.cmp (range_inclusive_start r) x)) (is_le (order.cmp x (range_inclusive_end r))) h)

  pub closed_holds : (r : RangeInclusive K) (x : K) → order.IsAtMost (range_inclusive_start r) x → order.IsAtMost x (range_inclusive_end r) → (closed is_key order.cmp).holds r x ≡ true
  closed_holds r x from to = and_from (is_le (order.cmp (range_inclusive_start r) x)) (is_le (order.cmp x (range_inclusive_end r))) (order.by_at_most (range_inclusive_start r) x from) (order.by_at_most x (range_inclusive_end r) to)

  -- a range `a..=b` that was not iterated may be stored
  pub closed_storable : (r : RangeInclusive K) → is_key (range_inclusive_start r) → is_key (range_inclusive_end r) → order.IsAtMost (range_inclusive_start r) (range_inclusive_end r) → range_inclusive_exhausted r ≡ false → IsStorable (closed is_key order.cmp) r
  closed_storable r first last forward fresh = record { start_is_key = first; end_is_key = last; non_empty = (order.by_at_most (range_inclusive_start r) (range_inclusive_end r) forward, fresh) }

  pub next_behind : (r s : RangeInclusive K) → order.IsAtMost (range_inclusive_end r) (range_inclusive_end s) → order.IsAtMost (order.next (range_inclusive_end r)) (order.next (range_inclusive_end s))
  next_behind r s h = order.next_at_most (range_inclusive_end r) (order.next (range_inclusive_end s)) (order.below_next (range_inclusive_end r) (range_inclusive_end s) h)

  pub closed_within : (r s : RangeInclusive K) → IsStorable (closed is_key order.cmp) r → ((x : K) → is_key x → (closed is_key order.cmp).holds r x ≡ true → (closed is_key order.cmp).holds s x ≡ true)
      → order.IsAtMost (order.next (range_inclusive_end r)) (order.next (range_inclusive_end s))
  closed_within r s stored each =
      let e = range_inclusive_end r in
      let reflexive : order.IsAtMost e e = order.from_next e e (order.below_next e e (order.at_most e e (ap is_le (itself order.total e)))) in
      next_behind r s (closed_to s e (each e stored.end_is_key (closed_holds r e (order.at_most (range_inclusive_start r) e stored.non_empty.0) reflexive)))

  module _ {after before : K → Option K} (i : IsInterval order is_key after before) where
    -- ranges `a..=b` of these keys
    abbrev pub closed_kind : NumberKind K (RangeInclusive K)
    closed_kind = record {
      order = order;
      kind = closed is_key order.cmp;
      end_place = closed_end_place after;
      part = closed_part after before;
      placed = closed_placed is_key order.cmp order.total after before i.follows i.precedes;
      behind = λ r. order.next (range_inclusive_end r);
      stretch = λ x y. record { start = x; end = order.last y; exhausted = false };
      holds = λ r x from to. closed_holds r x from (order.from_next x (range_inclusive_end r) to);
      from = closed_from;
      to = λ r x h. order.below_next x (range_inclusive_end r) (closed_to r x h);
      is_key = λ r x stored h. i.convex (range_inclusive_start r) x (range_inclusive_end r) stored.start_is_key stored.end_is_key (closed_from r x h) (closed_to r x h);
      less = λ x y h. lt_is (order.cmp x y) (order.by_below x y h);
      ends = λ r key. subst (λ o. place_cmp order.cmp (Some (order.next (range_inclusive_end r))) o ≡ Equal) (sym (i.after_is (range_inclusive_end r) key)) (itself order.total (order.next (range_inclusive_end r)));
      starts_within = λ r s h. order.at_most (range_inclusive_start s) (range_inclusive_start r) h;
      ends_within = λ r s h. next_behind r s (order.at_most (range_inclusive_end r) (range_inclusive_end s) h);
      lies_within = closed_within;
      storable = λ x y forward first last. record { start_is_key = first; end_is_key = last; non_empty = (order.by_at_most x (order.last y) (order.to_last x y forward), refl) };
      starts = λ x y. refl;
      stops = λ x y forward. order.last_then_next x y forward;
    }

-- ---- the four kinds

pub nat_interval : (bound : ℕ) → IsInterval unsigned (λ x. x < bound) (nat_after bound) nat_before
nat_interval bound = record {
  convex = λ x y z x-key z-key from to. omega arith;
  follows = nat_follows bound;
  precedes = nat_precedes bound;
  after_is = λ x key. ap (λ b. cond b (Some (x + 1)) None) (lt-ltb (x + 1) bound key);
}

int_convex : (half : ℕ) (x y z : ℤ) → IsSigned half x → IsSigned half z → x ≤ℤ y → y ≤ℤ z → IsSigned half y
int_convex half x y z x-key z-key from to = let low = x-key.0 in let high = z-key.1 in (omega (arith, ints), omega (arith, ints))

int_test : (x y : ℤ) → x <ℤ y → int_lt x y ≡ true
int_test x y h = grind (arith, ints)

pub int_interval : (half : ℕ) → IsInterval signed (IsSigned half) (int_after half) (int_before half)
int_interval half = record {
  convex = int_convex half;
  follows = int_follows half;
  precedes = int_precedes half;
  after_is = λ x key. ap (λ b. cond b (Some (x +ℤ pos 1)) None) (int_test (x +ℤ pos 1) (pos half) key.1);
}

-- `a..b` of unsigned numbers, and of signed ones
abbrev pub half_open_unsigned : NumberKind ℕ (Range ℕ)
half_open_unsigned = half_open_kind unsigned

abbrev pub half_open_signed : NumberKind ℤ (Range ℤ)
half_open_signed = half_open_kind signed

-- `a..=b` of the numbers below the bound, and of the numbers from -half up to below half
abbrev pub closed_unsigned : ℕ → NumberKind ℕ (RangeInclusive ℕ)
closed_unsigned bound = closed_kind unsigned (λ x. x < bound) (nat_interval bound)

abbrev pub closed_signed : ℕ → NumberKind ℤ (RangeInclusive ℤ)
closed_signed half = closed_kind signed (IsSigned half) (int_interval half)

-- what the lemmas of `CallerLemmas` ask of the unsigned kinds as `p`; of any kind it is `n.placed`
pub placed_half_open : IsPlaced (half_open nat_cmp) half_open_end_place half_open_part
placed_half_open = half_open_unsigned.placed

pub placed_below : (bound : ℕ) → IsPlaced (closed (λ x. x < bound) nat_cmp) (closed_end_place (nat_after bound)) (closed_part (nat_after bound) nat_before)
placed_below bound = (closed_unsigned bound).placed
