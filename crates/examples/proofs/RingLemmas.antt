-- Block numbers modulo 2^32.
use Rattle.std.proofs.Common.{arith, ◌≡◌, ℕ, ◌+◌, ◌-◌, ◌%◌, ◌^◌, ◌<◌, ◌≤◌}

-- a block as far behind the start as `first` is behind the start's place lies on `first`
pub step_on_ring : (start shift first : ℕ) → first < 2 ^ 32 → (start + (first + (2 ^ 32 - (start + shift) % 2 ^ 32)) % 2 ^ 32 + shift) % 2 ^ 32 ≡ first
step_on_ring start shift first below = omega arith

pub same_on_ring : (one other shift : ℕ) → one < 2 ^ 32 → other < 2 ^ 32 → (one + shift) % 2 ^ 32 ≡ (other + shift) % 2 ^ 32 → one ≡ other
same_on_ring one other shift k l h = omega arith

-- where a block lies by the shift that is stored for a stretch
pub shifted : (logical physical step : ℕ) → logical < 2 ^ 32 → physical + step < 2 ^ 32 → (logical + step + (physical + (2 ^ 32 - logical)) % 2 ^ 32) % 2 ^ 32 ≡ physical + step
shifted logical physical step k l = omega arith

pub lies_within : (logical physical more block : ℕ) → logical < 2 ^ 32 → physical + more < 2 ^ 32 → logical ≤ block → block ≤ logical + more
    → (physical ≤ (block + (physical + (2 ^ 32 - logical)) % 2 ^ 32) % 2 ^ 32) × ((block + (physical + (2 ^ 32 - logical)) % 2 ^ 32) % 2 ^ 32 ≤ physical + more)
lies_within logical physical more block k l from to = (omega arith, omega arith)
