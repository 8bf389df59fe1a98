use Rattle.std.proofs.Common.{length}
use Rattle.rangemap_formats.proofs.text.OnLinesReader.read.Given as goal

abbrev pub decreases-loop-pair : goal.decreases-loop-pair
decreases-loop-pair g l = length (g.C.Cursor.left l.rest)
