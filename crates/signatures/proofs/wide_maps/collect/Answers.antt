use Rattle.std.proofs.Common.{◌<◌, ◌^◌}
use Rattle.std.specs.Ordering.{nat_cmp}
use Rattle.rangemap.specs.Ranges.{closed}
use Rattle.rangemap.proofs.IncomingLemmas.{canonical_non_empty, owned}
use Rattle.signatures.proofs.wide_maps.collect.Goals as goal

pub from_iter-requires-clause-non_empty : goal.from_iter-requires-clause-non_empty
from_iter-requires-clause-non_empty c it h = owned (closed (λ x. x < 2 ^ 64) nat_cmp) it _ h.0 (canonical_non_empty (closed (λ x. x < 2 ^ 64) nat_cmp) _ _ h.1)
