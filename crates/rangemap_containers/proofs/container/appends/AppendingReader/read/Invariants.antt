use Rattle.std.proofs.Common.{length}
use Rattle.rangemap_core.proofs.AppendLemmas.{AppendsSoFar}
use Rattle.rangemap_containers.proofs.container.appends.AppendingReader.read.Given as goal

-- clones of the pairs that were taken stand behind the old ones
abbrev pub invariant-pairs : goal.invariant-pairs
invariant-pairs g l = AppendsSoFar g.Q.Kind.kind g.V.PartialEq.eq (g.C.Cursor.left l.fn.pairs) (g.C.Cursor.left l.rest) l.fn.out.items l.out.items

abbrev pub decreases-pairs : goal.decreases-pairs
decreases-pairs g l = length (g.C.Cursor.left l.rest)
