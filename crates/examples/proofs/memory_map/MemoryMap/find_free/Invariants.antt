use Rattle.std.proofs.Common.{◌+◌, ◌<◌, All, IsOkAnd}
use Rattle.examples.proofs.memory_map.MemoryMap.find_free.Given as goal

-- each gap so far is too short
abbrev pub invariant-loop-gap : goal.invariant-loop-gap
invariant-loop-gap l = All (λ item. IsOkAnd item (λ gap. gap.end < gap.start + l.size)) l.yielded
