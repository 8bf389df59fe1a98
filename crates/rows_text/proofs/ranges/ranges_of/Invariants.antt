use Rattle.rangemap_core.specs.Sets.{AreNonEmptyRanges}
use Rattle.rows_text.proofs.ranges.ranges_of.Given as goal

abbrev pub invariant-loop-range : goal.invariant-loop-range
invariant-loop-range g l = AreNonEmptyRanges g.Q.Kind.kind l.all.items
