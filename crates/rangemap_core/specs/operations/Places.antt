-- The places from which and to which ranges go: before a key, or after it. All are in one order, and no step of a key is asked.
use Rattle.std.specs.Prelude.{Bool, true, false}
use Rattle.std.specs.Ordering.{bool_cmp, ordering_then}
use Rattle.std.specs.declared.cmp.Ordering.{Ordering}
use Rattle.std.specs.declared.ops.Range.{Range}
use Rattle.std.specs.declared.ops.RangeInclusive.{RangeInclusive}

-- A range goes from the place `start_place` up to the place `end_place`. `order` compares places, and `between a b` goes from
-- the start of `a` up to the end of `b`.
pub record RangePlaces (P X : Type 0) : Type 0 where
  pub start_place : X → P
  pub end_place : X → P
  pub order : P → P → Ordering
  pub between : X → X → X

-- a place is before a key, with false, or after it
abbrev pub side_cmp : {K : Type 0} → (K → K → Ordering) → K × Bool → K × Bool → Ordering
side_cmp cmp p q = ordering_then (cmp p.0 q.0) (bool_cmp p.1 q.1)

-- `a..b`: from the place before `a` up to that before `b`
abbrev pub half_open_places : {K : Type 0} → (K → K → Ordering) → RangePlaces (K × Bool) (Range K)
half_open_places cmp = record {
  start_place = λ r. (r.start, false);
  end_place = λ r. (r.end, false);
  order = side_cmp cmp;
  between = λ a b. record { start = a.start; end = b.end };
}

-- `a..=b`: from the place before `a` up to that after `b`
abbrev pub closed_places : {K : Type 0} → (K → K → Ordering) → RangePlaces (K × Bool) (RangeInclusive K)
closed_places cmp = record {
  start_place = λ r. (r.start, false);
  end_place = λ r. (r.end, true);
  order = side_cmp cmp;
  between = λ a b. record { start = a.start; end = b.end; exhausted = false };
}
