use Rattle.std.proofs.Common.{refl}
use Rattle.std.specs.Array.Iter.{array_into_iter_items}
use Rattle.std.specs.Ordering.{nat_cmp}
use Rattle.rangemap.specs.Ranges.{half_open}
use Rattle.rangemap.proofs.IncomingLemmas.{listed}
use Rattle.tests.proofs.arrays.check_arrays.Goals as goal

pub from_iter-requires-clause-non_empty : goal.from_iter-requires-clause-non_empty
from_iter-requires-clause-non_empty g c it h = listed (half_open nat_cmp) array_into_iter_items h.2 it _ h.0 (refl, (refl, tt))

pub extend-requires-clause-non_empty : goal.extend-requires-clause-non_empty
extend-requires-clause-non_empty g c it h = listed (half_open nat_cmp) array_into_iter_items h.2 it _ h.0 (refl, (refl, tt))
