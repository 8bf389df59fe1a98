use Rattle.rangemap_sorted.proofs.SpliceLemmas.{IsBroughtForward}
use Rattle.rangemap_sorted.proofs.splice.close_gap.Given as goal

abbrev pub invariant-loop-at : goal.invariant-loop-at
invariant-loop-at g l = IsBroughtForward l.fn.list l.list l.count l.at
