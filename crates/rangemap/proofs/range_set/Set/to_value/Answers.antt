use Rattle.std.proofs.Common.{IfErr, IfOk, subst}
use Rattle.std.specs.Fn.{FnReturnsAt}
use Rattle.rangemap_formats.specs.Json.{IsForm, RefusesToWrite, set_writer}
use Rattle.rangemap.proofs.MapLemmas.{pairs_are}
use Rattle.rangemap.proofs.range_set.Set.to_value.Goals as goal

pub returns-clause-ok : goal.returns-clause-ok
returns-clause-ok g c =
    let k = g.S.Kind.Kind.kind in
    subst (λ ps. IfOk c.write.result (IsForm k (set_writer (FnReturnsAt g.WK.Fn c.args.write_key)) ps)) (pairs_are k _ _ c.self.view_is) c.write.ensures.ok

pub returns-clause-err : goal.returns-clause-err
returns-clause-err g c =
    let k = g.S.Kind.Kind.kind in
    subst (λ ps. IfErr c.write.result (RefusesToWrite k (set_writer (FnReturnsAt g.WK.Fn c.args.write_key)) ps)) (pairs_are k _ _ c.self.view_is) c.write.ensures.err
