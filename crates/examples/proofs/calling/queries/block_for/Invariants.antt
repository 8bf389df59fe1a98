use Rattle.std.proofs.Common.{◌+◌, ◌<◌, All, IsOkAnd}
use Rattle.std.specs.Range.{range_inclusive_end, range_inclusive_start}
use Rattle.examples.proofs.calling.queries.block_for.Given as goal

-- each gap so far is too short
abbrev pub invariant-loop-gap : goal.invariant-loop-gap
invariant-loop-gap l = All (λ item. IsOkAnd item (λ gap. range_inclusive_end gap + 1 < range_inclusive_start gap + l.size)) l.yielded
