use Rattle.std.proofs.Common.{length, ◌≡◌}
use Rattle.rangemap_core.specs.Ranges.{same_pairs}
use Rattle.rangemap_formats.proofs.compare.SameReaderOfBoth.read.Given as goal

-- what is left of both is equal where all pairs are
abbrev pub invariant-pairs : goal.invariant-pairs
invariant-pairs g l = same_pairs g.Q.Kind.kind g.V.PartialEq.eq (g.C.Cursor.left l.left) (g.C.Cursor.left l.right) ≡ same_pairs g.Q.Kind.kind g.V.PartialEq.eq (g.C.Cursor.left l.fn.left) (g.C.Cursor.left l.fn.right)

abbrev pub decreases-pairs : goal.decreases-pairs
decreases-pairs g l = length (g.C.Cursor.left l.left)
