use Rattle.std.proofs.Common.{subst, sym}
use Rattle.rangemap_core.specs.Sets.{IsCanonicalSet}
use Rattle.rangemap.proofs.MapLemmas.{overlapping, overlapping_canonical}
use Rattle.rangemap.proofs.range_set.Set.overlapping.Goals as goal

pub returns-clause-met : goal.returns-clause-met
returns-clause-met g c = overlapping g.S.Kind.Kind.kind _ _ c.self.view_is c.args.range.now _ _ c.overlapping.ensures c.over.ensures

pub returns-clause-canonical : goal.returns-clause-canonical
returns-clause-canonical g c = subst (IsCanonicalSet g.S.Kind.Kind.kind) (sym c.over.ensures) (overlapping_canonical g.S.Kind.Kind.kind _ _ c.self.view_is g.met.S.Kind.Kind.has_places c.args.range.now _ c.overlapping.ensures c.known.ensures)
