use Rattle.std.proofs.Common.{◌<◌, All}
use Rattle.std.specs.Map.Iter.{deref_pair}
use Rattle.examples.proofs.calling.are_below.Given as goal

abbrev pub invariant-loop-value : goal.invariant-loop-value
invariant-loop-value l = All (λ item. (deref_pair item).1 < l.limit) l.yielded
