use Rattle.rangemap.proofs.MapLemmas.{canonical}
use Rattle.rangemap.proofs.range_set.Set.known.Goals as goal

pub returns : goal.returns
returns g c = canonical g.S.Kind.Kind.kind _ _ c.self.view_is c.known.ensures
