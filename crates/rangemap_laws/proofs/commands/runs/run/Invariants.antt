use Rattle.std.proofs.Common.{◌≡◌, ◌≤◌, length, vec_capacity, vec_len}
use Rattle.std.specs.List.{AllByRecursion}
use Rattle.rangemap_laws.specs.Runs.{CommandStep, IsAllowed, Ran}
use Rattle.rangemap_laws.proofs.commands.runs.run.Given as goal

abbrev pub invariant-loop-command : goal.invariant-loop-command
invariant-loop-command g l = record {
  ran : Ran (CommandStep g.M.Kind.Kind.kind g.M.Value.PartialEq.eq) (g.M.Container.pairs l.fn.map) l.yielded l.answers.items (g.M.Container.pairs l.map);
  answered : vec_len l.answers ≡ length l.yielded;
  allowed : AllByRecursion (IsAllowed g.M.Kind.Kind.kind) l.command-iterator.rest.items;
  room : vec_len l.fn.commands ≤ vec_capacity l.answers;
}
