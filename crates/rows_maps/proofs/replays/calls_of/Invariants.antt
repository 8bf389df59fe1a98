use Rattle.std.specs.List.{AllByRecursion}
use Rattle.rangemap_maps.specs.MapHistories.{HasNonEmptyRanges}
use Rattle.rows_maps.proofs.replays.calls_of.Given as goal

abbrev pub invariant-loop-call : goal.invariant-loop-call
invariant-loop-call g l = AllByRecursion (HasNonEmptyRanges g.Q.Kind.kind) l.all.items
