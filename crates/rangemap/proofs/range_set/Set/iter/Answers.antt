use Rattle.std.proofs.Common.{ap, sym}
use Rattle.rangemap_core.specs.Sets.{ranges}
use Rattle.rangemap.proofs.MapLemmas.{canonical}
use Rattle.rangemap.proofs.range_set.Set.iter.Goals as goal

pub over-requires-clause-canonical : goal.over-requires-clause-canonical
over-requires-clause-canonical g c = g.met.S.Kind.Kind.canonical_unstepped _ (canonical g.S.Kind.Kind.kind _ _ (ap ranges (sym c.iter.ensures)) c.known.ensures)

pub returns-clause-canonical : goal.returns-clause-canonical
returns-clause-canonical g c = canonical g.S.Kind.Kind.kind _ _ c.self.view_is c.known.ensures
