-- A pair that a lookup found: its range is not empty.
use Rattle.std.proofs.Common.{◌≡◌, ℕ, Bool, List, Option, Some, None, IfSome, option_map, slice_get, refl}
use Rattle.std.specs.Borrow.{Bor}
use Rattle.rangemap_core.specs.Ranges.{RangeKind, IsCanonical}
use Rattle.rangemap_core.proofs.StoredLemmas.{non_empty_at}

module _ {K X V : Type 0} (k : RangeKind K X) (eq : V → V → Bool) where
  pub found_non_empty : (list : List (X × V)) → IsCanonical k eq list → (at : ℕ) (found : Option (Bor X × Bor V)) → option_map (λ pair. (pair.0.now, pair.1.now)) found ≡ slice_get list at → IfSome found (λ pair. k.IsNonEmpty pair.0.now)
  found_non_empty list can at None h = tt
  found_non_empty list can at (Some pair) h = non_empty_at k eq list list can refl at (pair.0.now, pair.1.now) h
