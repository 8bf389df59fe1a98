-- What calls on a list of containers make of the point functions that these stand for: those that every container has, and any that
-- say it themselves.
use Rattle.std.specs.Prelude.{◌≡◌, ℕ, ◌≤◌, ⊤, Bool, true, false, List, [], ◌∷◌, ◌++◌, length, Option, Some, None, is_some, slice_get, slice_set}
use Rattle.std.specs.List.{AllZip}
use Rattle.rangemap_containers.specs.declared.calls.Change.{Change}
use Rattle.rangemap_containers.specs.declared.calls.Change.TheVariants.{New, Insert, Remove, Clear, Clone}
use Rattle.rangemap_core.specs.Ranges.{RangeKind, IsCanonOf, erase, nothing, override}

-- there is a function at the place, and what `change` makes of it stands there now
abbrev pub Changes : {K V : Type 0} → List (K → Option V) → ℕ → ((K → Option V) → K → Option V) → List (K → Option V) → Type 0
Changes {K} {V} old at change new = (f : K → Option V) × (slice_get old at ≡ Some f) × (new ≡ slice_set old at (change f))

-- f is defined at no point of the range
abbrev pub IsUndefinedOn : {K X V : Type 0} → RangeKind K X → (K → Option V) → X → Type 0
IsUndefinedOn {K} k f range = (x : K) → k.is_key x → k.holds range x ≡ true → f x ≡ None

-- f is defined at each point of the range
abbrev pub IsDefinedOn : {K X V : Type 0} → RangeKind K X → (K → Option V) → X → Type 0
IsDefinedOn {K} k f range = (x : K) → k.is_key x → k.holds range x ≡ true → is_some (f x) ≡ true

-- ---- one call on containers of the functions old: where the answer is true it was accepted, and they now have the functions new

module _ {K X V : Type 0} (k : RangeKind K X) where
  -- the range that the call is given, if it is given one, is not empty
  abbrev pub HasNonEmptyRange : Change X V → Type 0
  HasNonEmptyRange New = ⊤
  HasNonEmptyRange (Insert at range value) = k.IsNonEmpty range
  HasNonEmptyRange (Remove at range) = k.IsNonEmpty range
  HasNonEmptyRange (Clear at) = ⊤
  HasNonEmptyRange (Clone at) = ⊤

  -- a call that every container has
  abbrev pub ChangeStep : List (K → Option V) → Change X V → Bool → List (K → Option V) → Type 0
  ChangeStep old New true new = new ≡ old ++ nothing ∷ []
  -- a new container is never refused
  ChangeStep old New false new = ⊥
  ChangeStep old (Insert at range value) true new = Changes old at (λ f. override k f range value) new
  ChangeStep old (Insert at range value) false new = new ≡ old
  ChangeStep old (Remove at range) true new = Changes old at (λ f. erase k f range) new
  -- a remove that meets nothing of a container is not refused
  ChangeStep old (Remove at range) false new = (new ≡ old) × ((f : K → Option V) → slice_get old at ≡ Some f → ¬ (IsUndefinedOn k f range))
  ChangeStep old (Clear at) true new = Changes old at (λ f. nothing) new
  -- a clear is refused only where no container is at the place
  ChangeStep old (Clear at) false new = (new ≡ old) × (length old ≤ at)
  ChangeStep old (Clone at) true new = (f : K → Option V) × (slice_get old at ≡ Some f) × (new ≡ old ++ f ∷ [])
  ChangeStep old (Clone at) false new = new ≡ old

-- ---- calls, one after another

-- `step` says what one call makes of a list, by its answer; this says what the calls make in turn, with an answer each
abbrev pub Run : {F C : Type 0} → (List F → C → Bool → List F → Type 0) → List F → List C → List Bool → List F → Type 0
Run step old [] [] new = new ≡ old
Run {F} step old (call ∷ calls) (answer ∷ answers) new = (mid : List F) × step old call answer mid × Run step mid calls answers new
Run step old [] (answer ∷ answers) new = ⊥
Run step old (call ∷ calls) [] new = ⊥

-- of containers of any type M, which show their lists by `pairs`
module _ {K X V M : Type 0} (k : RangeKind K X) (eq : V → V → Bool) (pairs : M → List (X × V)) where
  -- each container's list is the canonical list of the function at its place
  abbrev pub AreCanonOf : List (K → Option V) → List M → Type 0
  AreCanonOf = AllZip (λ f container. IsCanonOf k eq f (pairs container))

  module _ {C : Type 0} (step : List (K → Option V) → C → Bool → List (K → Option V) → Type 0) where
    -- whatever functions the containers old stand for, the call takes these to functions that the containers new stand for
    abbrev pub Makes : List M → C → Bool → List M → Type 0
    Makes old call answer new = (fs : List (K → Option V)) → AreCanonOf fs old → (gs : List (K → Option V)) × step fs call answer gs × AreCanonOf gs new

    -- the same of calls, one after another
    abbrev pub MakesAll : List M → List C → List Bool → List M → Type 0
    MakesAll old calls answers new = (fs : List (K → Option V)) → AreCanonOf fs old → (gs : List (K → Option V)) × Run step fs calls answers gs × AreCanonOf gs new
