use Rattle.std.specs.List.{AllByRecursion}
use Rattle.rangemap.specs.SetHistories.{SetHasNonEmptyRanges}
use Rattle.rows_sets.proofs.replays.calls_of.Given as goal

abbrev pub invariant-loop-call : goal.invariant-loop-call
invariant-loop-call g l = AllByRecursion (SetHasNonEmptyRanges g.Q.Kind.kind) l.all.items
