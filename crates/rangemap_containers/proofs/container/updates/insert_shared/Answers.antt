use Rattle.std.proofs.lemmas.Result.{on_ok_weaker}
use Rattle.rangemap_core.specs.Ranges.{IsStorable, value_at}
use Rattle.rangemap_core.proofs.SegmentLemmas.{shares_none, shares_some}
use Rattle.rangemap_containers.proofs.container.updates.insert_shared.Goals as goal

pub insert-requires-clause-non_empty : goal.insert-requires-clause-non_empty
insert-requires-clause-non_empty g c =
    let stored : IsStorable g.M.Kind.Kind.kind c.in-Some.shared = (rw c.in-Some.is at c.in_ok-shared.ensures.found).0 in
    stored.non_empty

pub returns-in_default-clause-ok : goal.returns-in_default-clause-ok
returns-in_default-clause-ok g c =
    shares_none g.M.Kind.Kind.kind g.met.M.Value.Eq.laws c.args.first.now c.args.second.now c.args.value (g.M.Container.pairs c.args.container.now) (rw c.in_default.is at c.in_ok-shared.ensures.none) c.known.ensures

pub returns-clause-ok : goal.returns-clause-ok
returns-clause-ok g c =
    let k = g.M.Kind.Kind.kind in
    on_ok_weaker c.insert.result
    (shares_some k g.met.M.Value.Eq.laws c.args.first.now c.args.second.now c.args.value (value_at k (g.M.Container.pairs c.args.container.now)) c.in-Some.shared (g.M.Container.pairs c.insert.new.self) (rw c.in-Some.is at c.in_ok-shared.ensures.found).1)
    c.insert.ensures.ok
