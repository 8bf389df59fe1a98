use Rattle.std.proofs.Common.{ap, sym, ◌∙◌}
use Rattle.rangemap_core.specs.Sets.{ranges}
use Rattle.rangemap.proofs.MapLemmas.{canonical}
use Rattle.rangemap.proofs.range_set.collect.SetIntoIterator.into_iter.Goals as goal

pub over-requires-clause-canonical : goal.over-requires-clause-canonical
over-requires-clause-canonical g c = g.met.S.Kind.Kind.canonical_unstepped _ (canonical g.S.Kind.Kind.kind _ _ (ap ranges (sym c.into_pairs.ensures.pairs)) c.into_pairs.ensures.canonical)

pub returns : goal.returns
returns g c =
    record { into_iter_gives = (c.over.ensures ∙ ap ranges c.into_pairs.ensures.pairs ∙ c.self.view_is, canonical g.S.Kind.Kind.kind _ _ c.self.view_is c.into_pairs.ensures.canonical) }
