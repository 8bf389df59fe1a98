use Rattle.std.proofs.Common.{◌<◌, All}
use Rattle.std.specs.Map.Iter.{deref_pair}
use Rattle.examples.proofs.calling.all_below.Given as goal

abbrev pub invariant-loop-person : goal.invariant-loop-person
invariant-loop-person l = All (λ item. (deref_pair item).1 < l.limit) l.yielded
