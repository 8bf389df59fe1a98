use Rattle.std.proofs.Common.{length}
use Rattle.rangemap_formats.proofs.WritingLemmas.{WrittenSoFar}
use Rattle.rangemap_formats.proofs.json.writing.EntriesReaderRangeValue.read.Given as goal

-- the pairs that were taken stand as entries
abbrev pub invariant-pairs : goal.invariant-pairs
invariant-pairs g l = WrittenSoFar g.S.Kind.Kind.kind (g.W.WritesParts.writer l.fn.state.1) (g.C.Cursor.left l.fn.pairs) (g.C.Cursor.left l.rest) l.entries.items

abbrev pub decreases-pairs : goal.decreases-pairs
decreases-pairs g l = length (g.C.Cursor.left l.rest)
