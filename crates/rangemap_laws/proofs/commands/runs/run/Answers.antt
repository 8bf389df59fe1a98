use Rattle.std.proofs.Common.{arith, refl, subst, sym, ◌∙◌}
use Rattle.std.proofs.lemmas.Grind.{common_steps}
use Rattle.std.proofs.IntoIterSteps.{All-taken}
use Rattle.std.specs.List.{AllByRecursion}
use Rattle.rangemap_laws.specs.Runs.{CommandStep, IsAllowed, Ran}
use Rattle.rangemap_laws.proofs.RunLemmas.{Ran-last}
use Rattle.rangemap_laws.proofs.commands.runs.run.Goals as goal

pub loop-command-init : goal.loop-command-init
loop-command-init g c = record {
  ran = rw c.in_ok-answers.ensures.items refl;
  answered = grind (arith, common_steps);
  allowed = subst (AllByRecursion (IsAllowed g.M.Kind.Kind.kind)) (sym c.into_iter-command-iterator.ensures.into_iter_gives.0) c.requires.allowed;
  room = grind (arith, common_steps);
}

pub loop-command-preserved : goal.loop-command-preserved
loop-command-preserved g c = record {
  ran = rw c.push_reserved.ensures.items (Ran-last (CommandStep g.M.Kind.Kind.kind g.M.Value.PartialEq.eq) (g.M.Container.pairs c.args.map.now) (g.M.Container.pairs c.loop-command.map) (g.M.Container.pairs c.answer-given.new.map) c.loop-command.yielded c.loop-command.answers.items c.in-Some.command c.answer-given.result c.loop-command.invariant.ran c.answer-given.ensures);
  allowed = (subst (AllByRecursion (IsAllowed g.M.Kind.Kind.kind)) c.in-Some.ensures.steps.0 c.loop-command.invariant.allowed).1;
  answered = grind (arith, common_steps);
  room = grind (arith, common_steps);
}

pub returns-clause-ok : goal.returns-clause-ok
returns-clause-ok g c =
    subst (λ commands. Ran (CommandStep g.M.Kind.Kind.kind g.M.Value.PartialEq.eq) (g.M.Container.pairs c.args.map.now) commands c.loop-command.answers.items (g.M.Container.pairs c.loop-command.map))
    (All-taken c.into_iter-command-iterator.result c.loop-command.yielded (c.next.new.self, (c.loop-command.command-iterator, c.loop-command.yielded_by, c.in-None.ensures.steps)) ∙ c.into_iter-command-iterator.ensures.into_iter_gives.0)
    c.loop-command.invariant.ran

pub answer-given-requires-clause-allowed : goal.answer-given-requires-clause-allowed
answer-given-requires-clause-allowed g c = (subst (AllByRecursion (IsAllowed g.M.Kind.Kind.kind)) c.in-Some.ensures.steps.0 c.loop-command.invariant.allowed).0
