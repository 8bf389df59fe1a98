use Rattle.std.proofs.Common.{◌≡◌, ◌||◌, take, ℕ}
use Rattle.std.specs.Ordering.{nat_cmp}
use Rattle.rangemap.specs.Ranges.{covers, half_open}
use Rattle.examples.proofs.calling.add_all.Given as goal

-- the set has the keys that it had, and those of the ranges so far
abbrev pub invariant-loop-range : goal.invariant-loop-range
invariant-loop-range l = (key : ℕ) → covers (half_open nat_cmp) l.set key ≡ (covers (half_open nat_cmp) l.initial.set key || covers (half_open nat_cmp) (take l.range-index l.ranges) key)
