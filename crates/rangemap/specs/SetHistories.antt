-- What calls on a list of sets make of the point functions that the sets stand for.
use Rattle.std.specs.Prelude.{◌≡◌, ℕ, ◌<◌, ◌≤◌, ⊤, ◌⊎◌, Bool, true, false, List, ◌∷◌, [], ◌++◌, length, take, Option, Some, slice_get}
use Rattle.rangemap_containers.specs.Histories.{ChangeStep, Changes}
use Rattle.rangemap_core.specs.Operators.{common, either, one_only, without}
use Rattle.rangemap_containers.specs.declared.calls.Change.TheVariants.{New as MakeEmpty, Insert as InsertPair, Remove as RemoveRange, Clear as ClearMap, Clone as CloneMap}
use Rattle.rangemap.specs.declared.range_set.calls.SetCall.{SetCall}
use Rattle.rangemap.specs.declared.range_set.calls.SetCall.TheVariants.{New, Insert, Remove, Clear, Clone, FromIter, Extend, Union, Intersection, Difference, SymmetricDifference}
use Rattle.rangemap_core.specs.Ranges.{RangeKind, nothing, override_all, with_unit}
use Rattle.rangemap_core.specs.Sets.{AreNonEmptyRanges}

-- what an operator makes of the functions at two places is added at the end
abbrev pub Joins : {K V : Type 0} → ((K → Option V) → (K → Option V) → K → Option V) → List (K → Option V) → ℕ → ℕ → List (K → Option V) → Type 0
Joins {K} {V} operator old left right new = (f : K → Option V) × (g : K → Option V) × (slice_get old left ≡ Some f) × (slice_get old right ≡ Some g) × (new ≡ old ++ operator f g ∷ [])

-- ---- one call on sets of the functions old: where the answer is true it was accepted, and the sets now have the functions new

module _ {K X A : Type 0} (k : RangeKind K X) where
  -- no range that the call is given is empty
  abbrev pub SetHasNonEmptyRanges : SetCall X A → Type 0
  SetHasNonEmptyRanges New = ⊤
  SetHasNonEmptyRanges (Insert at range) = k.IsNonEmpty range
  SetHasNonEmptyRanges (Remove at range) = k.IsNonEmpty range
  SetHasNonEmptyRanges (Clear at) = ⊤
  SetHasNonEmptyRanges (Clone at) = ⊤
  SetHasNonEmptyRanges (FromIter ranges) = AreNonEmptyRanges k ranges.items
  SetHasNonEmptyRanges (Extend at ranges) = AreNonEmptyRanges k ranges.items
  SetHasNonEmptyRanges (Union left right) = ⊤
  SetHasNonEmptyRanges (Intersection left right) = ⊤
  SetHasNonEmptyRanges (Difference left right) = ⊤
  SetHasNonEmptyRanges (SymmetricDifference left right) = ⊤

  -- A call that every container has makes what `Change` makes with the value that says nothing. The others take ranges, or are
  -- operators.
  abbrev pub SetStep : List (K → Option ⊤) → SetCall X A → Bool → List (K → Option ⊤) → Type 0
  SetStep old New answer new = ChangeStep k old MakeEmpty answer new
  SetStep old (Insert at range) answer new = ChangeStep k old (InsertPair at range tt) answer new
  SetStep old (Remove at range) answer new = ChangeStep k old (RemoveRange at range) answer new
  SetStep old (Clear at) answer new = ChangeStep k old (ClearMap at) answer new
  SetStep old (Clone at) answer new = ChangeStep k old (CloneMap at) answer new
  SetStep old (FromIter ranges) true new = new ≡ old ++ override_all k nothing (with_unit k ranges.items) ∷ []
  SetStep old (FromIter ranges) false new = new ≡ old
  SetStep old (Extend at ranges) true new = Changes old at (λ f. override_all k f (with_unit k ranges.items)) new
  -- a refused extend counts for some beginning of its ranges that lacks one at least, and for none where no set is at the place
  SetStep old (Extend at ranges) false new = ((length old ≤ at) × (new ≡ old)) ⊎ ((n : ℕ) × (n < length ranges.items) × Changes old at (λ f. override_all k f (with_unit k (take n ranges.items))) new)
  SetStep old (Union left right) true new = Joins either old left right new
  SetStep old (Union left right) false new = new ≡ old
  SetStep old (Intersection left right) true new = Joins common old left right new
  SetStep old (Intersection left right) false new = new ≡ old
  SetStep old (Difference left right) true new = Joins without old left right new
  SetStep old (Difference left right) false new = new ≡ old
  SetStep old (SymmetricDifference left right) true new = Joins one_only old left right new
  SetStep old (SymmetricDifference left right) false new = new ≡ old
