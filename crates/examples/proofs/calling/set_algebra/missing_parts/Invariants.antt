use Rattle.std.proofs.Common.{◌≡◌, map, Ok}
use Rattle.examples.proofs.calling.set_algebra.missing_parts.Given as goal

abbrev pub invariant-loop-part : goal.invariant-loop-part
invariant-loop-part l = l.yielded ≡ map Ok l.parts.items
