use Rattle.std.proofs.Common.{◌+◌, ◌<◌, All, IsOkAnd}
use Rattle.examples.proofs.calling.room_for.Given as goal

abbrev pub invariant-loop-gap : goal.invariant-loop-gap
invariant-loop-gap l = All (λ item. IsOkAnd item (λ gap. gap.end < gap.start + l.size)) l.yielded
