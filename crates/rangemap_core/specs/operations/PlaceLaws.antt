-- What it means that ranges of a kind go from place to place.
use Rattle.std.proofs.Common.{◌≡◌, ◌&&◌, ◌⊎◌, true, Less, Equal, is_lt, is_le}
use Rattle.std.specs.Cmp.{IsTotalOrder}
use Rattle.rangemap_core.specs.operations.Places.{RangePlaces}
use Rattle.rangemap_core.specs.Ranges.{RangeKind}

-- Each range goes from the place where it starts to that where it ends. A key is at a place, and so is the cut that it makes.
pub record HasPlaces {K X P : Type 0} (k : RangeKind K X) (l : RangePlaces P X) (at cut : K → P) : Type 0 where
  pub total : IsTotalOrder l.order
  pub starts : (r s : X) → k.cmp (k.start r) (k.start s) ≡ l.order (l.start_place r) (l.start_place s)
  pub ends : (r s : X) → k.cmp (k.end r) (k.end s) ≡ l.order (l.end_place r) (l.end_place s)
  pub non_empty : (r : X) → k.IsNonEmpty r → l.order (l.start_place r) (l.end_place r) ≡ Less
  pub before : (r s : X) → k.IsBefore r s → is_le (l.order (l.end_place r) (l.start_place s)) ≡ true
  pub before_from : (r s : X) → is_le (l.order (l.end_place r) (l.start_place s)) ≡ true → k.IsBefore r s
  -- what touches over a wider gap touches over a narrower one
  pub touches_within : (r s t u : X) → k.IsBefore t u → is_le (l.order (l.end_place r) (l.end_place t)) ≡ true → is_le (l.order (l.start_place u) (l.start_place s)) ≡ true → k.Touches r s → k.Touches t u
  pub holds : (r : X) (x : K) → k.holds r x ≡ (is_le (l.order (l.start_place r) (at x)) && is_lt (l.order (at x) (l.end_place r)))
  pub cuts : (r : X) (x : K) → k.is_cut r x ≡ (is_lt (l.order (l.start_place r) (cut x)) && is_lt (l.order (cut x) (l.end_place r)))
  -- a key of a range is at its start, or is in each range that ends there too, or makes a cut inside
  pub held : (item : X) (x : K) → k.holds item x ≡ true
      → (l.order (at x) (l.start_place item) ≡ Equal)
      ⊎ (((r : X) → k.IsNonEmpty r → l.order (l.end_place item) (l.end_place r) ≡ Equal → k.holds r x ≡ true) ⊎ (k.is_cut item x ≡ true))
  -- a cut is at a key of the range
  pub cut_held : (r : X) (x : K) → k.is_cut r x ≡ true → k.holds r x ≡ true
  pub between_start : (a b : X) → k.start (l.between a b) ≡ k.start a
  pub between_end : (a b : X) → k.end (l.between a b) ≡ k.end b
  pub between_start_place : (a b : X) → l.start_place (l.between a b) ≡ l.start_place a
  pub between_end_place : (a b : X) → l.end_place (l.between a b) ≡ l.end_place b
  pub between_non_empty : (a b : X) → l.order (l.start_place a) (l.end_place b) ≡ Less → k.IsNonEmpty (l.between a b)
