use Rattle.std.proofs.Common.{◌≢◌, All}
use Rattle.std.specs.Map.Iter.{deref_pair}
use Rattle.examples.specs.declared.memory_map.Region.{Region}
use Rattle.examples.proofs.memory_map.MemoryMap.shows.Given as goal

-- no region so far shows the file
abbrev pub invariant-loop-region : goal.invariant-loop-region
invariant-loop-region l = All (λ item. (deref_pair {X = Region} item).1.file ≢ l.file) l.yielded
