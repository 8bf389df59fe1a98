use Rattle.std.proofs.Common.{◌≤◌, ℕ, All}
use Rattle.std.specs.Map.Iter.{deref}
use Rattle.std.specs.declared.ops.Range.{Range}
use Rattle.examples.proofs.calling.queries.overtime.Given as goal

-- each range so far ends at the limit or before it
abbrev pub invariant-loop-range : goal.invariant-loop-range
invariant-loop-range l = All (λ item. (deref {X = Range ℕ} item).end ≤ l.limit) l.yielded
