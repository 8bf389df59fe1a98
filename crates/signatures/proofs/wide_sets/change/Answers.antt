use Rattle.std.proofs.Common.{◌<◌, ◌^◌}
use Rattle.std.specs.Ordering.{nat_cmp}
use Rattle.rangemap.specs.Ranges.{closed}
use Rattle.signatures.proofs.CanonicalRanges.{handed_over}
use Rattle.signatures.proofs.wide_sets.change.Goals as goal

pub extend-requires-clause-non_empty : goal.extend-requires-clause-non_empty
extend-requires-clause-non_empty c it h = handed_over (closed (λ x. x < 2 ^ 64) nat_cmp) it h.0 h.1
