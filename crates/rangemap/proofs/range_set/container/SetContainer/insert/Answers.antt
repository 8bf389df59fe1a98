use Rattle.std.proofs.Common.{arith}
use Rattle.std.proofs.lemmas.Result.{on_ok_weaker}
use Rattle.rangemap_core.specs.Ranges.{value_at, with_unit}
use Rattle.rangemap_unions.proofs.SetLemmas.{count_with, inserted}
use Rattle.rangemap_unions.proofs.UnitValueLemmas.{newest_unit}
use Rattle.rangemap.proofs.range_set.container.SetContainer.insert.Goals as goal

pub returns-clause-ok : goal.returns-clause-ok
returns-clause-ok g c = on_ok_weaker c.insert.result (inserted g.S.Kind.Kind.kind c.args.self.now c.insert.new.self c.args.range _) c.insert.ensures.ok

pub returns-clause-newest : goal.returns-clause-newest
returns-clause-newest g c =
    let k = g.S.Kind.Kind.kind in
    on_ok_weaker c.insert.result
    (λ added. newest_unit k c.args.range _ (value_at k (with_unit k c.args.self.now)) (with_unit k c.insert.new.self) (inserted k c.args.self.now c.insert.new.self c.args.range _ added))
    c.insert.ensures.ok

pub returns-clause-growth : goal.returns-clause-growth
returns-clause-growth g c =
    let k = g.S.Kind.Kind.kind in
    let before = count_with k c.args.self.now in
    let after = count_with k c.insert.new.self in
    on_ok_weaker c.insert.result (λ one. omega (arith, before, after, one)) c.insert.ensures.growth
