use Rattle.std.specs.List.{AllByRecursion}
use Rattle.rangemap.specs.Histories.{HasNonEmptyRange}
use Rattle.rows_runner.proofs.any_container.replays.changes_of.Given as goal

abbrev pub invariant-loop-call : goal.invariant-loop-call
invariant-loop-call g l = AllByRecursion (HasNonEmptyRange g.Q.Kind.kind) l.all.items
