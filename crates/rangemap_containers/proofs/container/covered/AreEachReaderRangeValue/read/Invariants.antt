use Rattle.std.proofs.Common.{length}
use Rattle.rangemap_core.specs.engine.Stretch.{Every}
use Rattle.rangemap_core.specs.Ranges.{IsStorable}
use Rattle.rangemap_core.specs.Sets.{ranges}
use Rattle.rangemap_containers.proofs.CoveredLemmas.{SameAnswer}
use Rattle.rangemap_containers.proofs.container.covered.AreEachReaderRangeValue.read.Given as goal

-- the answer for all pairs is that for those that are left
abbrev pub invariant-asked : goal.invariant-asked
invariant-asked g l = record {
  stored : Every (λ pair. IsStorable g.S.Kind.Kind.kind pair.0) (g.C.Cursor.left l.rest);
  same : SameAnswer g.S.Kind.Kind.kind l.fn.asked.covered (ranges (g.S.Store.pairs l.fn.asked.other.now)) (g.C.Cursor.left l.fn.pairs) (g.C.Cursor.left l.rest);
}

abbrev pub decreases-asked : goal.decreases-asked
decreases-asked g l = length (g.C.Cursor.left l.rest)
