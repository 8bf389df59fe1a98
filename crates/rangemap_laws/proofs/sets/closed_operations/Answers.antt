use Rattle.rangemap_core.specs.operations.PlaceKinds.{closed_has_places}
use Rattle.rangemap_unions.proofs.IntersectionLemmas.{intersection_common}
use Rattle.rangemap_unions.proofs.UnionLemmas.{union_hulls}
use Rattle.rangemap_laws.proofs.sets.closed_operations.Goals as goal

pub returns-clause-hulls : goal.returns-clause-hulls
returns-clause-hulls g c = union_hulls (closed_has_places g.T.Ord.cmp g.met.T.Ord.total g.StepFnsT.StepFns.is_key)

pub returns-clause-common : goal.returns-clause-common
returns-clause-common g c = intersection_common (closed_has_places g.T.Ord.cmp g.met.T.Ord.total g.StepFnsT.StepFns.is_key)
