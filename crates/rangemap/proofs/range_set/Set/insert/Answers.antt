use Rattle.std.proofs.lemmas.Result.{on_ok_weaker}
use Rattle.rangemap.proofs.MapLemmas.{inserted}
use Rattle.rangemap.proofs.range_set.Set.insert.Goals as goal

pub returns-clause-ok : goal.returns-clause-ok
returns-clause-ok g c = on_ok_weaker c.insert.result (inserted g.S.Kind.Kind.kind _ _ c.self.view_is _ c.args.range) c.insert.ensures.ok
