use Rattle.rangemap.specs.Ranges.{half_open}
use Rattle.rangemap.proofs.IncomingLemmas.{canonical_non_empty, owned}
use Rattle.signatures.proofs.maps.every.Goals as goal

pub collect-requires-clause-non_empty : goal.collect-requires-clause-non_empty
collect-requires-clause-non_empty g c it h = owned (half_open g.K.Ord.cmp) it _ h.0 (canonical_non_empty (half_open g.K.Ord.cmp) _ _ h.1)

pub collect-requires-clause-more_non_empty : goal.collect-requires-clause-more_non_empty
collect-requires-clause-more_non_empty g c it h = owned (half_open g.K.Ord.cmp) it _ h.0 (canonical_non_empty (half_open g.K.Ord.cmp) _ _ h.1)
