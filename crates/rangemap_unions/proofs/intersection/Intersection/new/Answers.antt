use Rattle.rangemap_unions.proofs.IntersectionLemmas.{intersection_taken}
use Rattle.rangemap_unions.proofs.intersection.Intersection.new.Goals as goal

pub returns-clause-common : goal.returns-clause-common
returns-clause-common g c = intersection_taken g.met.C.Range.KeyRange.has_places _ _ _ _ _ c.into_cursor.ensures.rest c.into_cursor-2.ensures.rest c.over.ensures.items c.into_cursor.ensures.canonical c.into_cursor-2.ensures.canonical
