use Rattle.rangemap.specs.Ranges.{half_open}
use Rattle.signatures.proofs.CanonicalRanges.{handed_over}
use Rattle.signatures.proofs.sets.every.Goals as goal

pub collect-requires-clause-non_empty : goal.collect-requires-clause-non_empty
collect-requires-clause-non_empty g c it h = handed_over (half_open g.T.Ord.cmp) it h.0 h.1

pub collect-requires-clause-more_non_empty : goal.collect-requires-clause-more_non_empty
collect-requires-clause-more_non_empty g c it h = handed_over (half_open g.T.Ord.cmp) it h.0 h.1
