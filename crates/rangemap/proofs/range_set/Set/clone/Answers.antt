use Rattle.std.proofs.Common.{sym, ◌∙◌, refl}
use Rattle.rangemap.proofs.MapLemmas.{copied, same}
use Rattle.rangemap.proofs.range_set.Set.clone.Goals as goal

pub returns-clause-same : goal.returns-clause-same
returns-clause-same g c = sym (same g.S.Kind.Kind.kind _ _ c.self.view_is _ _ refl) ∙ c.in_ok-copy.ensures.same

pub returns-clause-canon : goal.returns-clause-canon
returns-clause-canon g c = copied g.S.Kind.Kind.kind _ _ c.self.view_is _ c.in_ok-copy.ensures.canon
