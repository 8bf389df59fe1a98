use Rattle.rangemap.proofs.MapLemmas.{canonical, overlaps}
use Rattle.rangemap.proofs.range_set.Set.overlaps.Goals as goal

pub returns-clause-any : goal.returns-clause-any
returns-clause-any g c = overlaps g.S.Kind.Kind.kind _ _ c.self.view_is c.args.range.now _ c.read_overlapping.ensures

pub returns-clause-canonical : goal.returns-clause-canonical
returns-clause-canonical g c = canonical g.S.Kind.Kind.kind _ _ c.self.view_is c.known.ensures
