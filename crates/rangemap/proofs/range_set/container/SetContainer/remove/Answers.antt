use Rattle.std.proofs.Common.{arith, ap}
use Rattle.std.proofs.lemmas.Result.{on_ok_weaker}
use Rattle.rangemap_core.specs.Ranges.{with_unit}
use Rattle.rangemap_unions.proofs.SetLemmas.{count_with, met_none, removed}
use Rattle.rangemap.proofs.range_set.container.SetContainer.remove.Goals as goal

pub returns-clause-ok : goal.returns-clause-ok
returns-clause-ok g c = on_ok_weaker c.remove.result (removed g.S.Kind.Kind.kind c.args.self.now c.remove.new.self c.args.range) c.remove.ensures.ok

pub returns-clause-growth : goal.returns-clause-growth
returns-clause-growth g c =
    let k = g.S.Kind.Kind.kind in
    let before = count_with k c.args.self.now in
    let after = count_with k c.remove.new.self in
    on_ok_weaker c.remove.result (λ one. omega (arith, before, after, one)) c.remove.ensures.growth

pub returns-clause-meets_nothing : goal.returns-clause-meets_nothing
returns-clause-meets_nothing g c none =
    let kept = c.remove.ensures.meets_nothing (met_none g.S.Kind.Kind.kind c.args.self.now c.args.range none) in
    (kept.0, ap (with_unit g.S.Kind.Kind.kind) kept.1)
