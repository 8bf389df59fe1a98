-- Iterators whose items are ranges that are not empty.
use Rattle.std.proofs.Common.{◌≡◌, List, Option, Some}
use Rattle.std.specs.Iterator.{Yields}
use Rattle.std.specs.Iterator.Runs.{EveryRun, ItemsAre}
use Rattle.rangemap_core.specs.Ranges.{RangeKind}
use Rattle.rangemap_core.specs.Sets.{AreNonEmptyRanges, GivesNonEmptyRanges}
use Rattle.rangemap_core.proofs.IncomingLemmas.{listed_items, turn_item}

module _ {K X S : Type 0} (k : RangeKind K X) {steps : S → Option X → S → Type 0} where
  -- an iterator over the ranges of a list, as that of an array or of a vector
  pub listed : (items : S → List X) → EveryRun steps (λ p. ItemsAre p (items p.from)) → (it : S) (xs : List X) → items it ≡ xs → AreNonEmptyRanges k xs → GivesNonEmptyRanges k steps it
  listed = listed_items k.IsNonEmpty

  -- the item of a turn
  pub at_turn : (it : S) (xs : List X) (t : S) (x : X) (u : S) → GivesNonEmptyRanges k steps it → Yields steps it xs t → steps t (Some x) u → k.IsNonEmpty x
  at_turn = turn_item steps k.IsNonEmpty
