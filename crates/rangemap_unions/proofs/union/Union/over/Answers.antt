use Rattle.rangemap_unions.proofs.CanonicalSetLemmas.{hulls_non_empty}
use Rattle.rangemap_unions.proofs.InsertLemmas.{either_points}
use Rattle.rangemap_unions.proofs.UnionLemmas.{union_hulls}
use Rattle.rangemap_unions.proofs.union.Union.over.Goals as goal

pub invariant_of-result : goal.invariant_of-result
invariant_of-result g c = hulls_non_empty g.C.Range.KeyRange.read _ _ (union_hulls g.met.C.Range.KeyRange.has_places _ _ c.requires.left c.requires.right)

pub returns-clause-hulls : goal.returns-clause-hulls
returns-clause-hulls g c = union_hulls g.met.C.Range.KeyRange.has_places _ _ c.requires.left c.requires.right

pub returns-clause-points : goal.returns-clause-points
returns-clause-points g c = either_points g.met.C.Range.KeyRange.has_places _ _ _ c.requires.left c.requires.right (returns-clause-hulls g c)
