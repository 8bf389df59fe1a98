use Rattle.std.proofs.Common.{All}
use Rattle.std.specs.Map.Iter.{deref_pair}
use Rattle.examples.proofs.ExtentLemmas.{outside}
use Rattle.examples.proofs.extents.Extents.is_used.Given as goal

abbrev pub invariant-loop-extent : goal.invariant-loop-extent
invariant-loop-extent l = All (λ item. outside l.first l.last (deref_pair item)) l.yielded
