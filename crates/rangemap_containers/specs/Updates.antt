-- What it is to give each covered key of a range a new value.
use Rattle.std.specs.Prelude.{◌≡◌, ◌&&◌, if◌then◌else◌, Bool, true, List, [], ◌∷◌, Option, Some, option_map, Result, Ok, ℕ, ◌<◌, length, take}
use Rattle.std.specs.declared.alloc.AllocError.{AllocError}
use Rattle.rangemap_core.specs.Ranges.{RangeKind, IsCanonOf, overlapped, value_at}

-- The function g gives equal values for equal ones, and whatever may be answered for a value equals what g gives for it.
pub record IsChange {V : Type 0} (eq : V → V → Bool) (answers : V → Result V AllocError → Type 0) (g : V → V) : Type 0 where
  pub respects : (v w : V) → eq v w ≡ true → eq (g v) (g w) ≡ true
  pub answered : (v w : V) → answers v (Ok w) → eq w (g v) ≡ true

module _ {K X V : Type 0} (k : RangeKind K X) (q : X) (g : V → V) where
  -- f with g of its values on the points of q
  abbrev pub updated : (K → Option V) → K → Option V
  updated f x = if k.holds q x then option_map g (f x) else f x

  -- f with g of each pair's value in turn, on the points that its range shares with q
  abbrev pub updated_by : List (X × V) → (K → Option V) → K → Option V
  updated_by [] f = f
  updated_by (a ∷ rest) f = updated_by rest (λ x. if k.holds q x && k.holds a.0 x then Some (g a.1) else f x)

-- the new list has new values at the keys of the first pairs that overlap q, and not of all
abbrev pub UpdatesSome : {K X V : Type 0} → RangeKind K X → (V → V → Bool) → (V → Result V AllocError → Type 0) → X → List (X × V) → List (X × V) → Type 0
UpdatesSome {K} {X} {V} k eq answers q old new = (n : ℕ) × (n < length (overlapped k old q)) × ((g : V → V) → IsChange eq answers g → IsCanonOf k eq (updated_by k q g (take n (overlapped k old q)) (value_at k old)) new)

-- the new list has them at each covered key of q
abbrev pub UpdatesAll : {K X V : Type 0} → RangeKind K X → (V → V → Bool) → (V → Result V AllocError → Type 0) → X → List (X × V) → List (X × V) → Type 0
UpdatesAll {K} {X} {V} k eq answers q old new = (g : V → V) → IsChange eq answers g → IsCanonOf k eq (updated k q g (value_at k old)) new
