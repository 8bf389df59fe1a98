use Rattle.rangemap_unions.proofs.InsertLemmas.{either_points}
use Rattle.rangemap_unions.proofs.UnionLemmas.{union_taken}
use Rattle.rangemap.proofs.range_set.Set.union.Goals as goal

pub returns-clause-hulls : goal.returns-clause-hulls
returns-clause-hulls g c = union_taken g.met.S.Kind.Kind.has_places _ _ _ _ _ c.iter.ensures.all c.iter-2.ensures.all c.new.ensures.items c.iter.ensures.canonical c.iter-2.ensures.canonical

pub returns-clause-points : goal.returns-clause-points
returns-clause-points g c = either_points g.met.S.Kind.Kind.has_places _ _ _ c.iter.ensures.canonical c.iter-2.ensures.canonical (returns-clause-hulls g c)
