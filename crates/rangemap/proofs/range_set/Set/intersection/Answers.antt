use Rattle.rangemap_unions.proofs.IntersectionLemmas.{intersection_taken}
use Rattle.rangemap.proofs.range_set.Set.intersection.Goals as goal

pub returns : goal.returns
returns g c = intersection_taken g.met.S.Kind.Kind.has_places _ _ _ _ _ c.iter.ensures.all c.iter-2.ensures.all c.new.ensures.items c.iter.ensures.canonical c.iter-2.ensures.canonical
