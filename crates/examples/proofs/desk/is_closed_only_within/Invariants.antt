use Rattle.std.proofs.Common.{◌≤◌, All}
use Rattle.std.specs.Map.Iter.{deref}
use Rattle.std.specs.Range.{range_inclusive_end, range_inclusive_start}
use Rattle.examples.proofs.desk.is_closed_only_within.Given as goal

-- each range so far lies within the days
abbrev pub invariant-loop-range : goal.invariant-loop-range
invariant-loop-range l = All (λ item. (l.first ≤ range_inclusive_start (deref item)) × (range_inclusive_end (deref item) ≤ l.last)) l.yielded
