use Rattle.rangemap_core.specs.Sets.{ranges}
use Rattle.rangemap_containers.proofs.CoveredLemmas.{disjoint_turned}
use Rattle.rangemap_containers.proofs.container.covered.is_disjoint.Goals as goal

pub returns-else-len : goal.returns-else-len
returns-else-len g c = disjoint_turned g.S.Kind.Kind.kind (ranges (g.S.Store.pairs c.args.stored.now)) (ranges (g.S.Store.pairs c.args.other.now)) c.is_free-else-len.result c.is_free-else-len.ensures
