use Rattle.rangemap_unions.proofs.CanonicalSetLemmas.{canonical_non_empty}
use Rattle.rangemap_unions.proofs.IntersectionLemmas.{intersection_common}
use Rattle.rangemap_unions.proofs.intersection.Intersection.over.Goals as goal

pub invariant_of-result : goal.invariant_of-result
invariant_of-result g c = canonical_non_empty g.C.Range.KeyRange.read _ (intersection_common g.met.C.Range.KeyRange.has_places _ _ c.requires.left c.requires.right).canonical

pub returns-clause-common : goal.returns-clause-common
returns-clause-common g c = intersection_common g.met.C.Range.KeyRange.has_places _ _ c.requires.left c.requires.right
