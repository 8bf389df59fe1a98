use Rattle.std.proofs.Common.{◌≡◌, ℕ, count_by, nat_le}
use Rattle.std.specs.Map.Iter.{deref}
use Rattle.std.specs.declared.ops.Range.{Range}
use Rattle.examples.proofs.calling.queries.count_begun.Given as goal

-- the count is that of the ranges so far
abbrev pub invariant-loop-range : goal.invariant-loop-range
invariant-loop-range l = l.count ≡ count_by (λ item. nat_le l.hours.start (deref {X = Range ℕ} item).start) l.yielded
