use Rattle.std.proofs.Common.{length, ◌≡◌}
use Rattle.rangemap_core.specs.ListOrder.{pairs_cmp}
use Rattle.rangemap_formats.proofs.compare.ComparedReaderOfBoth.read.Given as goal

-- what is left of both lies as all pairs do
abbrev pub invariant-pairs : goal.invariant-pairs
invariant-pairs g l = pairs_cmp g.Q.Kind.kind g.V.Ord.cmp (g.C.Cursor.left l.left) (g.C.Cursor.left l.right) ≡ pairs_cmp g.Q.Kind.kind g.V.Ord.cmp (g.C.Cursor.left l.fn.left) (g.C.Cursor.left l.fn.right)

abbrev pub decreases-pairs : goal.decreases-pairs
decreases-pairs g l = length (g.C.Cursor.left l.left)
