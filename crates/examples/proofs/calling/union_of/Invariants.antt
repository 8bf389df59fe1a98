use Rattle.std.proofs.Common.{◌≡◌, map, Ok}
use Rattle.examples.proofs.calling.union_of.Given as goal

abbrev pub invariant-loop-range : goal.invariant-loop-range
invariant-loop-range l = l.yielded ≡ map Ok l.ranges.items
