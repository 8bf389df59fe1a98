-- A canonical list in parts.
use Rattle.std.proofs.Common.{arith, ℕ, zero, suc, ◌<◌, Bool, List, [], ◌∷◌, ◌++◌, length, get_or}
use Rattle.rangemap_core.specs.Ranges.{RangeKind, IsCanonical}
use Rattle.rangemap_chunked.specs.Chunks.{whole}

module _ {K X V : Type 0} (k : RangeKind K X) (eq : V → V → Bool) where
  pub canonical_left : (xs ys : List (X × V)) → IsCanonical k eq (xs ++ ys) → IsCanonical k eq xs
  canonical_left [] ys c = tt
  canonical_left (a ∷ []) ys c = (c.0, tt, tt)
  canonical_left (a ∷ b ∷ xs) ys c = (c.0, c.1, canonical_left (b ∷ xs) ys c.2)

  pub canonical_right : (xs ys : List (X × V)) → IsCanonical k eq (xs ++ ys) → IsCanonical k eq ys
  canonical_right [] ys c = c
  canonical_right (a ∷ xs) ys c = canonical_right xs ys c.2

  -- a chunk of one
  pub canonical_chunk : (chunks : List (List (X × V))) → IsCanonical k eq (whole chunks) → (at : ℕ) (d : List (X × V)) → at < length chunks → IsCanonical k eq (get_or chunks at d)
  canonical_chunk [] c at d l = absurd (omega arith)
  canonical_chunk (x ∷ xs) c zero d l = canonical_left x (whole xs) c
  canonical_chunk (x ∷ xs) c (suc at) d l = canonical_chunk xs (canonical_right x (whole xs) c) at d (omega arith)
