-- A list of pairs that is kept in chunks.
use Rattle.std.specs.Prelude.{◌≡◌, ℕ, ◌+◌, ◌<◌, ◌≤◌, Bool, true, false, List, [], ◌∷◌, ◌++◌, length, take, drop, slice_get, Option, Some, None, IfSome, option_map, unwrap_or}
use Rattle.std.specs.declared.cmp.Ordering.TheVariants.{Less}
use Rattle.std.specs.Ordering.{is_lt, is_gt}
use Rattle.rangemap_core.specs.Ranges.{RangeKind, IsCanonical}
use Rattle.rangemap_core.specs.engine.Shape.{Shape, starts_by}
use Rattle.rangemap_core.specs.engine.Stretch.{Every}

-- the chunks one after the other
abbrev pub whole : {X : Type 0} → List (List X) → List X
whole [] = []
whole (chunk ∷ rest) = chunk ++ whole rest

-- what is left of a chunk that was begun, if one was
abbrev pub left_of : {I X : Type 0} → (I → List X) → Option I → List X
left_of items begun = unwrap_or (option_map items begun) []

-- no chunk is empty
abbrev pub AreFilled : {X : Type 0} → List (List X) → Type 0
AreFilled chunks = Every (λ chunk. 0 < length chunk) chunks

-- no chunk is empty; where there is no value, the one at the place may be
pub record AreFilledBut {X V : Type 0} (value : Option V) (at : ℕ) (chunks : List (List X)) : Type 0 where
  pub all : IfSome value (λ _. AreFilled chunks)
  pub before : AreFilled (take at chunks)
  pub behind : AreFilled (drop (at + 1) chunks)

-- The new list has `after` items in place of `before` of the old one, at most so many more: where all values are equal, at most one.
pub record IsCounted {X V : Type 0} (eq : V → V → Bool) (most : ℕ) (old new : List X) (before after : ℕ) : Type 0 where
  pub sum : length new + before ≡ length old + after
  pub some : before ≤ length old
  pub growth : after ≤ before + most
  pub growth_where_all_are_equal : ((v w : V) → eq v w ≡ true) → after ≤ before + 1

-- chunks of a canonical list, none of them empty
pub record AreChunks {K X V : Type 0} (k : RangeKind K X) (eq : V → V → Bool) (chunks : List (List (X × V))) : Type 0 where
  pub canonical : IsCanonical k eq (whole chunks)
  pub filled : AreFilled chunks

-- the value, if there is one, passes the test
abbrev pub first_passes : {X : Type 0} → (X → Bool) → Option X → Bool
first_passes test None = true
first_passes test (Some a) = test a

module _ {G P V : Type 0} (s : Shape G P V) (p : P) where
  -- the pair starts before the place
  abbrev pub starts_below : G × V → Bool
  starts_below a = is_lt (s.order (s.start_place a.0) p)

  -- the chunk starts no later than the place
  abbrev pub chunk_by : List (G × V) → Bool
  chunk_by chunk = first_passes (starts_by s p) (slice_get chunk 0)

  -- the chunk starts before the place
  abbrev pub chunk_below : List (G × V) → Bool
  chunk_below chunk = first_passes starts_below (slice_get chunk 0)

module _ {G P V : Type 0} (s : Shape G P V) (chunks : List (List (G × V))) (r : G) where
  -- every pair of the chunks before this one ends before the range starts
  abbrev pub IsClearBefore : ℕ → Type 0
  IsClearBefore at = Every (λ a. s.order (s.end_place a.0) (s.start_place r) ≡ Less) (whole (take at chunks))

  -- every pair of the chunks from this one on starts after the range ends
  abbrev pub IsClearBehind : ℕ → Type 0
  IsClearBehind end = Every (λ b. s.order (s.end_place r) (s.start_place b.0) ≡ Less) (whole (drop end chunks))

  -- every pair of the chunks from this one on starts where the range ends, or after it
  abbrev pub IsPastBehind : ℕ → Type 0
  IsPastBehind end = Every (λ b. is_gt (s.order (s.end_place r) (s.start_place b.0)) ≡ false) (whole (drop end chunks))

  -- every pair of the chunks from this one on starts where the range starts, or after it
  abbrev pub IsPastStart : ℕ → Type 0
  IsPastStart at = Every (λ b. is_gt (s.order (s.start_place r) (s.start_place b.0)) ≡ false) (whole (drop at chunks))

-- the place of the last pair of a chunk that starts no later than the range ends: those behind it start after that
pub record IsLastTouched {G P V : Type 0} (s : Shape G P V) (r : G) (chunk : List (G × V)) (place : ℕ) : Type 0 where
  pub in_bounds : place < length chunk
  pub touched : Every (λ a. is_gt (s.order (s.start_place a.0) (s.end_place r)) ≡ false) (take 1 (drop place chunk))
  pub behind : Every (λ b. s.order (s.end_place r) (s.start_place b.0) ≡ Less) (drop (place + 1) chunk)
