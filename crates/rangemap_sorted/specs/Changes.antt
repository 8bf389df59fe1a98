-- A change of the keys of a range: they get a value, or where there is none, lose theirs.
use Rattle.std.specs.Prelude.{ℕ, Bool, List, Option, Some, None, IfSome}
use Rattle.rangemap_core.specs.Ranges.{IsCanonOf, IsNewest, RangeKind, changed}

module _ {K X V : Type 0} (k : RangeKind K X) (eq : V → V → Bool) where
  -- the canonical list of f changed so, which has the very value on the points of r, where there is one
  pub record IsChanged (f : K → Option V) (r : X) (value : Option V) (list : List (X × V)) : Type 0 where
    pub canon : IsCanonOf k eq (changed k f r value) list
    pub newest : IfSome value (λ v. IsNewest k r v list)

-- how many pairs a change may add
abbrev pub grown : {V : Type 0} → Option V → ℕ
grown None = 1
grown (Some v) = 2
