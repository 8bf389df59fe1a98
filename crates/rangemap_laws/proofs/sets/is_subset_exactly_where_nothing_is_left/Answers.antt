use Rattle.rangemap_laws.proofs.JoinedLemmas.{none_left_where_subset}
use Rattle.rangemap_laws.proofs.sets.is_subset_exactly_where_nothing_is_left.Goals as goal

pub returns-clause-empty : goal.returns-clause-empty
returns-clause-empty g c = none_left_where_subset g.S.Kind.Kind.kind g.met.S.Kind.Kind.placed c.args.first.now c.args.second.now _ c.in_ok-rest.ensures c.is_subset-subset.result _ c.is_subset-subset.ensures c.is_empty.ensures
