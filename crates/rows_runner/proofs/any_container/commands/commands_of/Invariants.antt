use Rattle.std.specs.List.{AllByRecursion}
use Rattle.rangemap_laws.specs.Runs.{IsAllowed}
use Rattle.rows_runner.proofs.any_container.commands.commands_of.Given as goal

abbrev pub invariant-loop-command : goal.invariant-loop-command
invariant-loop-command g l = AllByRecursion (IsAllowed g.Q.Kind.kind) l.all.items
