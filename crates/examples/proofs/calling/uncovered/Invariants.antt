use Rattle.std.proofs.Common.{◌≡◌, map, Ok}
use Rattle.examples.proofs.calling.uncovered.Given as goal

abbrev pub invariant-loop-gap : goal.invariant-loop-gap
invariant-loop-gap l = l.yielded ≡ map Ok l.gaps.items
