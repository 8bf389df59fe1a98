-- What calls on a list of maps make of the point functions that the maps stand for, also those that take pairs.
use Rattle.std.specs.Prelude.{◌≡◌, ℕ, ◌<◌, ◌≤◌, ◌⊎◌, Bool, true, false, List, [], ◌∷◌, ◌++◌, length, take, Option}
use Rattle.rangemap_containers.specs.Histories.{ChangeStep, Changes, HasNonEmptyRange}
use Rattle.rangemap_core.specs.Ranges.{RangeKind, AreNonEmpty, nothing, override_all}
use Rattle.rangemap_maps.specs.declared.range_map.calls.Call.{Call}
use Rattle.rangemap_maps.specs.declared.range_map.calls.Call.TheVariants.{Change as Changing, FromIter, Extend}

module _ {K X V A : Type 0} (k : RangeKind K X) where
  -- no range that the call is given is empty
  abbrev pub HasNonEmptyRanges : Call X V A → Type 0
  HasNonEmptyRanges (Changing change) = HasNonEmptyRange k change
  HasNonEmptyRanges (FromIter pairs) = AreNonEmpty k pairs.items
  HasNonEmptyRanges (Extend at pairs) = AreNonEmpty k pairs.items

  -- a call that every map has, or one that takes pairs
  abbrev pub Step : List (K → Option V) → Call X V A → Bool → List (K → Option V) → Type 0
  Step old (Changing change) answer new = ChangeStep k old change answer new
  Step old (FromIter pairs) true new = new ≡ old ++ override_all k nothing pairs.items ∷ []
  Step old (FromIter pairs) false new = new ≡ old
  Step old (Extend at pairs) true new = Changes old at (λ f. override_all k f pairs.items) new
  -- a refused extend counts for some beginning of its pairs that lacks one at least, and for none where no map is at the place
  Step old (Extend at pairs) false new = ((length old ≤ at) × (new ≡ old)) ⊎ ((n : ℕ) × (n < length pairs.items) × Changes old at (λ f. override_all k f (take n pairs.items)) new)
