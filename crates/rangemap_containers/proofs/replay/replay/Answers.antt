use Rattle.std.proofs.Common.{◌≡◌, subst}
use Rattle.rangemap_containers.specs.Histories.{MakesAll}
use Rattle.rangemap_containers.proofs.ReplayLemmas.{made_in_turn}
use Rattle.rangemap_containers.proofs.replay.replay.Goals as goal

pub returns-clause-ok : goal.returns-clause-ok
returns-clause-ok g c =
    let k = g.M.Kind.Kind.kind in
    let kept : c.reserve.new.self.items ≡ c.args.containers.now.items = c.in_ok-reserve.ensures.items in
    subst (λ old. MakesAll k g.M.Value.PartialEq.eq g.M.Container.pairs g.C.CallOn.step old c.args.calls.items c.make_all.new.answers.items c.make_all.new.containers.items) kept
    (made_in_turn k g.M.Value.PartialEq.eq g.M.Container.pairs g.C.CallOn.step c.reserve.new.self.items c.make_all.new.containers.items c.args.calls.items c.make_all.new.answers.items c.make_all.ensures)
