use Rattle.std.proofs.Common.{[], ◌∷◌, arith, refl}
use Rattle.std.proofs.lemmas.Bool.Decides.{nat_tests}
use Rattle.std.specs.Array.Iter.{array_into_iter_items}
use Rattle.std.specs.Ordering.{nat_cmp}
use Rattle.rangemap.proofs.IncomingRangeLemmas.{listed}
use Rattle.rangemap.proofs.ItemsLemmas.{array_inserted, covers_after}
use Rattle.rangemap.specs.Ranges.{half_open}
use Rattle.examples.proofs.calling.add_shifts.Goals as goal

pub extend-requires-clause-non_empty : goal.extend-requires-clause-non_empty
extend-requires-clause-non_empty c it h = listed (half_open nat_cmp) array_into_iter_items h.2 it _ h.0 (refl, (refl, tt))

pub returns : goal.returns
returns c = array_inserted c.extend.result c.extend.ensures.items (λ it becomes. becomes.0) (λ added hour. grind (arith, nat_tests, covers_after (half_open nat_cmp) _ (record { start = 0; end = 5 } ∷ record { start = 7; end = 9 } ∷ []) _ added hour tt))
