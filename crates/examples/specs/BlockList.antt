-- A range of addresses as blocks, and as few of them as can be.
use Rattle.std.specs.Prelude.{◌≡◌, ℕ, ◌+◌, ◌-◌, ◌%◌, ◌≤◌, ◌^◌, List, [], ◌∷◌, length, All}
use Rattle.examples.specs.declared.block_list.Block.{Block}

-- how many addresses begin with so many given bits
abbrev pub size_of : ℕ → ℕ
size_of prefix = 2 ^ (32 - prefix)

-- the addresses that begin with so many given bits
pub record IsBlock (block : Block) : Type 0 where
  pub prefix : block.prefix ≤ 32
  pub aligned : block.first % size_of block.prefix ≡ 0

-- the first block starts at an address, each other one where the one before it ends, and the last ends with `end`
abbrev pub Tile : ℕ → ℕ → List Block → Type 0
Tile at end [] = at ≡ end
Tile at end (block ∷ rest) = (block.first ≡ at) × Tile (at + size_of block.prefix) end rest

-- no fewer blocks do
abbrev pub AreFewest : ℕ → ℕ → List Block → Type 0
AreFewest start end blocks = (others : List Block) → Tile start end others → All IsBlock others → length blocks ≤ length others

-- the block ends before `end`, or there, and is the largest one that starts where it does and so ends
pub record IsLargest (end : ℕ) (block : Block) : Type 0 where
  pub is_block : IsBlock block
  pub within : block.first + size_of block.prefix ≤ end
  pub largest : (other : Block) → IsBlock other → other.first ≡ block.first → other.first + size_of other.prefix ≤ end → block.prefix ≤ other.prefix
