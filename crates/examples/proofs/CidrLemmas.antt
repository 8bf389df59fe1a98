-- Blocks, each of which is the largest that fits, are the fewest.
use Rattle.std.proofs.Common.{arith, ◌≡◌, ◌⊎◌, inl, inr, ℕ, suc, ◌+◌, ◌-◌, ◌*◌, ◌/◌, ◌%◌, ◌<◌, ◌≤◌, ◌^◌, List, [], ◌∷◌, ◌++◌, All, length, sym, ap, subst, ◌∙◌}
use Rattle.std.proofs.Math.Nat.{add-mod_right, mul-le-mul_right, pow-succ', zero-mod}
use Rattle.std.proofs.Math.Pow.{mod-mod-pow, pow_mono, split}
use Rattle.std.proofs.lemmas.Bool.{cases_lt}
use Rattle.std.proofs.lemmas.List.Elements.{All-head, All-tail}
use Rattle.std.proofs.lemmas.Nat.{pow_pos}
use Rattle.examples.specs.BlockList.{AreFewest, IsBlock, IsLargest, Tile, size_of}
use Rattle.examples.specs.declared.block_list.Block.{Block}

-- ---- sizes

-- a bit less in common, twice as many addresses
pub twice : (prefix : ℕ) → 0 < prefix → prefix ≤ 32 → size_of (prefix - 1) ≡ 2 * size_of prefix
twice prefix some within =
    let e : 32 - (prefix - 1) ≡ suc (32 - prefix) = omega (arith, some, within) in
    ap (λ n. 2 ^ n) e ∙ pow-succ' 2 (32 - prefix)

pub smaller : (shorter prefix : ℕ) → shorter ≤ prefix → size_of prefix ≤ size_of shorter
smaller shorter prefix less = pow_mono (omega (arith, less))

-- where a block starts a smaller one may
pub aligned_too : (first shorter prefix : ℕ) → shorter ≤ prefix → prefix ≤ 32 → first % size_of shorter ≡ 0 → first % size_of prefix ≡ 0
aligned_too first shorter prefix less within h =
    let e : 32 - shorter ≡ (prefix - shorter) + (32 - prefix) = omega (arith, less, within) in
    sym (mod-mod-pow first (prefix - shorter) (32 - prefix)) ∙ ap (λ n. n % size_of prefix) (ap (λ n. first % 2 ^ n) (sym e) ∙ h) ∙ zero-mod (size_of prefix)

-- two starts of blocks of one size lie as far apart at least
next_start : (prefix x y : ℕ) → x % size_of prefix ≡ 0 → y % size_of prefix ≡ 0 → x < y → x + size_of prefix ≤ y
next_start prefix x y hx hy less = go (cases_lt (x / size_of prefix) (y / size_of prefix))
  where
    x_is : (x / size_of prefix) * size_of prefix ≡ x
    x_is = omega (arith, split x (32 - prefix), hx)

    y_is : (y / size_of prefix) * size_of prefix ≡ y
    y_is = omega (arith, split y (32 - prefix), hy)

    go : ((x / size_of prefix) < (y / size_of prefix)) ⊎ ((y / size_of prefix) ≤ (x / size_of prefix)) → x + size_of prefix ≤ y
    go (inl up) =
        let far : suc (x / size_of prefix) * size_of prefix ≤ (y / size_of prefix) * size_of prefix = mul-le-mul_right (size_of prefix) up in
        omega (arith, far, x_is, y_is)
    go (inr down) =
        let near : (y / size_of prefix) * size_of prefix ≤ (x / size_of prefix) * size_of prefix = mul-le-mul_right (size_of prefix) down in
        omega (arith, near, x_is, y_is, less)

-- ---- tiles

-- one block more
pub Tile-last : (at mid : ℕ) (blocks : List Block) (block : Block) → Tile at mid blocks → block.first ≡ mid → Tile at (mid + size_of block.prefix) (blocks ++ block ∷ [])
Tile-last at mid [] block h starts = (starts ∙ sym h, ap (λ n. n + size_of block.prefix) h)
Tile-last at mid (first ∷ rest) block h starts = (h.0, Tile-last (at + size_of first.prefix) mid rest block h.1 starts)

forward : (at end : ℕ) (blocks : List Block) → Tile at end blocks → at ≤ end
forward at end [] h = omega (arith, h)
forward at end (block ∷ rest) h = omega (arith, forward (at + size_of block.prefix) end rest h.1)

-- ---- other blocks than the largest

module _ (end : ℕ) (block : Block) (is : IsLargest end block) where
  abbrev past : ℕ
  past = block.first + size_of block.prefix

  -- some of the blocks go on where the largest block ends, and fewer of them where one starts within it
  abbrev GoOn : ℕ → List Block → Type 0
  GoOn from others = (rest : List Block) × Tile past end rest × All IsBlock rest × (length rest ≤ length others) × (from < past → length rest < length others)

  -- a block that starts within the largest ends within it
  inner : (other : Block) → IsBlock other → block.first ≤ other.first → other.first < past → other.first + size_of other.prefix ≤ end → other.first + size_of other.prefix ≤ past
  inner other there low less fits = go (cases_lt other.prefix block.prefix)
    where
      same : other.prefix < block.prefix → (block.first < other.first) ⊎ (other.first ≤ block.first) → other.first + size_of other.prefix ≤ past
      same wide (inl behind) =
          let far = next_start block.prefix block.first other.first is.is_block.aligned (aligned_too other.first other.prefix block.prefix (omega (arith, wide)) is.is_block.prefix there.aligned) behind in
          omega (arith, far, less)
      same wide (inr not_behind) = omega (arith, is.largest other there (omega (arith, low, not_behind)) fits, wide)

      go : (other.prefix < block.prefix) ⊎ (block.prefix ≤ other.prefix) → other.first + size_of other.prefix ≤ past
      go (inl wide) = same wide (cases_lt block.first other.first)
      go (inr narrow) =
          next_start other.prefix other.first past there.aligned
          (aligned_too past block.prefix other.prefix narrow there.prefix (add-mod_right block.first (size_of block.prefix) ∙ is.is_block.aligned)) less

  go_on : (from : ℕ) (others : List Block) → block.first ≤ from → from ≤ past → Tile from end others → All IsBlock others → GoOn from others
  go_on from [] low high tile blocks = ([], omega (arith, high, is.within, tile), blocks, omega arith, λ less. omega (arith, less, is.within, tile))
  go_on from (other ∷ rest) low high tile blocks =
      step (λ later ends. go_on (from + size_of other.prefix) rest later ends tile.1 (All-tail IsBlock other rest blocks)) (cases_lt from past)
    where
      step : (block.first ≤ from + size_of other.prefix → from + size_of other.prefix ≤ past → GoOn (from + size_of other.prefix) rest) → (from < past) ⊎ (past ≤ from) → GoOn from (other ∷ rest)
      step next (inl less) =
          let there = All-head IsBlock other rest blocks in
          let fits = forward (from + size_of other.prefix) end rest tile.1 in
          let ends = inner other there (omega (arith, low, tile.0)) (omega (arith, less, tile.0)) (omega (arith, fits, tile.0)) in
          let more = next (omega (arith, low)) (omega (arith, ends, tile.0)) in
          (more.0, more.1, more.2, omega (arith, more.3), λ _. omega (arith, more.3))
      step next (inr here) =
          let same : from ≡ past = omega (arith, here, high) in
          (other ∷ rest, subst (λ at. Tile at end (other ∷ rest)) same tile, blocks, omega arith, λ less. omega (arith, less, here))

pub largest_are_fewest : (start end : ℕ) (blocks : List Block) → Tile start end blocks → All (IsLargest end) blocks → AreFewest start end blocks
largest_are_fewest start end [] tile all = λ others tile_others blocks. omega arith
largest_are_fewest start end (block ∷ rest) tile all = λ others tile_others blocks.
    let is = All-head (IsLargest end) block rest all in
    let more = go_on end block is start others (omega (arith, tile.0)) (omega (arith, tile.0)) tile_others blocks in
    let fewer = largest_are_fewest (start + size_of block.prefix) end rest tile.1 (All-tail (IsLargest end) block rest all) more.0 (subst (λ at. Tile (at + size_of block.prefix) end more.0) tile.0 more.1) more.2 in
    omega (arith, fewer, more.4 (omega (arith, tile.0, pow_pos (32 - block.prefix))))
