use Rattle.rangemap_core.specs.Ranges.{AreNonEmpty}
use Rattle.rows_text.proofs.ranges.pairs_of.Given as goal

abbrev pub invariant-loop-pair : goal.invariant-loop-pair
invariant-loop-pair g l = AreNonEmpty g.Q.Kind.kind l.all.items
