use Rattle.rangemap_unions.proofs.InsertLemmas.{either_points}
use Rattle.rangemap_unions.proofs.UnionLemmas.{union_taken}
use Rattle.rangemap_unions.proofs.union.Union.new.Goals as goal

pub returns-clause-hulls : goal.returns-clause-hulls
returns-clause-hulls g c = union_taken g.met.C.Range.KeyRange.has_places _ _ _ _ _ c.into_cursor.ensures.rest c.into_cursor-2.ensures.rest c.over.ensures.items c.into_cursor.ensures.canonical c.into_cursor-2.ensures.canonical

pub returns-clause-points : goal.returns-clause-points
returns-clause-points g c = either_points g.met.C.Range.KeyRange.has_places _ _ _ c.into_cursor.ensures.canonical c.into_cursor-2.ensures.canonical (returns-clause-hulls g c)
