-- For callers that loop: what is known when a loop asks for a further item, as one record. In an answer
-- `search lends_again`, `search asks_for_gaps` and `search asks_again` make it of what the answer knows.
use Rattle.std.proofs.Common.{◌≡◌, List, [], Option, Result, refl}
use Rattle.std.specs.Borrow.{Bor}
use Rattle.std.specs.Iterator.{Yields}
use Rattle.std.specs.Map.Iter.{TakesFirst, deref, deref_pair}
use Rattle.std.specs.declared.alloc.AllocError.{AllocError}
use Rattle.rangemap_core.specs.MadeRanges.{GivesNext, GivesRange}
use Rattle.rangemap_core.proofs.MadeRangeLemmas.{given_so_far}
use Rattle.rangemap_core.specs.Ranges.{AreGaps, RangeKind}

-- A loop over ranges that an iterator makes, as `for range in left.union(right)`. All of them are `all`;
-- it was given `items`, and asks again: the answer is `result`.
pub record AsksAgain {K X : Type 0} (k : RangeKind K X) (all : List X) (items : List (Result X AllocError)) (result : Option (Result X AllocError)) : Type 0 where
  pub start : List X
  pub left : List X
  pub new : List X
  pub is : start ≡ all
  pub so_far : Yields (GivesRange k) start items left
  pub step : GivesRange k left result new

pub asks_again : {K X : Type 0} {k : RangeKind K X} {all : List X} {items : List (Result X AllocError)} {result : Option (Result X AllocError)} (surely : Type 0) (start left new : List X) → start ≡ all → Yields (GivesNext k surely) start items left → GivesNext k surely left result new → AsksAgain k all items result
asks_again {k = k} {items = items} surely start left new is so_far step = record { start = start; left = left; new = new; is = is; so_far = given_so_far k surely start items left so_far; step = step.0 }

-- A loop over the gaps that stored ranges leave in a range q, as `for gap in map.gaps(&q)`. It was given
-- `items`, and asks again: the answer is `result`.
pub record AsksForGaps {K X : Type 0} (k : RangeKind K X) (ranges : List X) (q : X) (items : List (Result X AllocError)) (result : Option (Result X AllocError)) : Type 0 where
  pub all : List X
  pub are : AreGaps k ranges q all
  pub asks : AsksAgain k all items result

pub asks_for_gaps : {K X : Type 0} {k : RangeKind K X} {ranges : List X} {q : X} {items : List (Result X AllocError)} {result : Option (Result X AllocError)} (surely : Type 0) (all start left new : List X) → AreGaps k ranges q all → start ≡ all → Yields (GivesNext k surely) start items left → GivesNext k surely left result new → AsksForGaps k ranges q items result
asks_for_gaps surely all start left new are is so_far step = record { all = all; are = are; asks = asks_again surely start left new is so_far step }

-- the same without a loop, where the first gap is asked for by `next`
pub asks_first_gap : {K X : Type 0} {k : RangeKind K X} {ranges : List X} {q : X} {result : Option (Result X AllocError)} (all new : List X) → AreGaps k ranges q all → GivesRange k all result new → AsksForGaps k ranges q [] result
asks_first_gap all new are step = record { all = all; are = are; asks = record { start = all; left = all; new = new; is = refl; so_far = refl; step = step } }

-- A loop over what a container lends, as `for (range, value) in map.iter()`, `for (range, value) in
-- map.overlapping(&range)` and `for range in set.iter()`. All of it is `given`; it was lent `items`, and
-- asks again: the answer is `result`.
pub record LendsAgain {Item A : Type 0} (show : Item → A) (given : List A) (items : List Item) (result : Option Item) : Type 0 where
  pub lent : List A
  pub start : List A
  pub left : List A
  pub new : List A
  pub all : lent ≡ given
  pub is : start ≡ lent
  pub so_far : Yields (TakesFirst show) start items left
  pub step : TakesFirst show left result new

pub lends_again : {Item A : Type 0} {show : Item → A} {given : List A} {items : List Item} {result : Option Item} (lent start left new : List A) → lent ≡ given → start ≡ lent → Yields (TakesFirst show) start items left → TakesFirst show left result new → LendsAgain show given items result
lends_again lent start left new all is so_far step = record { lent = lent; start = start; left = left; new = new; all = all; is = is; so_far = so_far; step = step }

-- the pairs of a map, and the ranges of a set
abbrev pub LendsPairs : {X V : Type 0} → List (X × V) → List (Bor X × Bor V) → Option (Bor X × Bor V) → Type 0
LendsPairs given items result = LendsAgain deref_pair given items result

abbrev pub LendsRanges : {X : Type 0} → List X → List (Bor X) → Option (Bor X) → Type 0
LendsRanges given items result = LendsAgain deref given items result
