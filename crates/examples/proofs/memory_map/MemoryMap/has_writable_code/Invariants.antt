use Rattle.std.proofs.Common.{◌≡◌, All, false}
use Rattle.std.specs.Map.Iter.{deref_pair}
use Rattle.examples.specs.MemoryMap.{is_both}
use Rattle.examples.proofs.memory_map.MemoryMap.has_writable_code.Given as goal

-- no region so far is both
abbrev pub invariant-loop-region : goal.invariant-loop-region
invariant-loop-region l = All (λ item. is_both (deref_pair item).1 ≡ false) l.yielded
