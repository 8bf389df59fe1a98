use Rattle.std.proofs.Common.{length}
use Rattle.std.specs.Fn.{FnReturnsAt}
use Rattle.std.specs.Vec.Iter.{into_iter_items}
use Rattle.rangemap_containers.proofs.UpdateLemmas.{AreDone}
use Rattle.rangemap_containers.proofs.container.updates.update.Given as goal

-- what is left of the clones, and what the others have made
abbrev pub invariant-pairs : goal.invariant-pairs
invariant-pairs g l = AreDone g.M.Kind.Kind.kind g.M.Value.PartialEq.eq (FnReturnsAt g.F.Fn l.change) l.range (g.M.Container.pairs l.fn.container) (into_iter_items l.rest) (g.M.Container.pairs l.container)

abbrev pub decreases-pairs : goal.decreases-pairs
decreases-pairs g l = length (into_iter_items l.rest)
