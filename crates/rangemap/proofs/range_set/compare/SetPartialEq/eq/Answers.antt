use Rattle.std.proofs.Common.{◌∙◌}
use Rattle.rangemap.proofs.MapLemmas.{same}
use Rattle.rangemap.proofs.range_set.compare.SetPartialEq.eq.Goals as goal

pub returns : goal.returns
returns g c = c.are_same.ensures ∙ same g.S.Kind.Kind.kind _ _ c.self.view_is _ _ c.other.view_is
