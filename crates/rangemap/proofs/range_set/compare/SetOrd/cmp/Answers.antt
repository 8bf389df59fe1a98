use Rattle.std.proofs.Common.{◌∙◌}
use Rattle.rangemap.proofs.MapLemmas.{compared}
use Rattle.rangemap.proofs.range_set.compare.SetOrd.cmp.Goals as goal

pub returns : goal.returns
returns g c = c.compare.ensures ∙ compared g.S.Kind.Kind.kind _ _ c.self.view_is _ _ c.other.view_is
