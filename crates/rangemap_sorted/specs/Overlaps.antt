-- Where the pairs end that a range meets.
use Rattle.std.specs.Prelude.{◌≡◌, ℕ, ◌≤◌, List, length, true, false}
use Rattle.std.specs.List.{AllWithin}
use Rattle.rangemap_core.specs.engine.Shape.{Shape}
use Rattle.rangemap_core.specs.engine.Stretch.{starts_within}

-- of the pairs from start on, those up to end start before r ends, and no others
pub record IsOverlapEnd {G P V : Type 0} (s : Shape G P V) (xs : List (G × V)) (r : G) (start end : ℕ) : Type 0 where
  pub start_le_end : start ≤ end
  pub in_bounds : end ≤ length xs
  pub begun : AllWithin (λ b. starts_within s r b ≡ true) xs start end
  pub later : AllWithin (λ b. starts_within s r b ≡ false) xs end (length xs)
