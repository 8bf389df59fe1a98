use Rattle.std.proofs.lemmas.Result.{on_ok_weaker}
use Rattle.rangemap.proofs.MapLemmas.{meets_none, removed}
use Rattle.rangemap.proofs.range_set.Set.remove.Goals as goal

pub returns-clause-ok : goal.returns-clause-ok
returns-clause-ok g c = on_ok_weaker c.remove.result (removed g.S.Kind.Kind.kind _ _ c.self.view_is _ c.args.range) c.remove.ensures.ok

pub returns-clause-meets_nothing : goal.returns-clause-meets_nothing
returns-clause-meets_nothing g c none =
    let kept = c.remove.ensures.meets_nothing (meets_none g.S.Kind.Kind.kind _ _ c.self.view_is c.args.range none) in
    (kept.0, let same = kept.1 in let is = c.self.view_is in cc)
