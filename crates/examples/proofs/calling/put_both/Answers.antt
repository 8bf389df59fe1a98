use Rattle.std.proofs.Common.{arith, refl}
use Rattle.std.proofs.lemmas.Bool.Decides.{nat_tests}
use Rattle.std.specs.Array.Iter.{array_into_iter_items}
use Rattle.std.specs.Ordering.{nat_cmp}
use Rattle.rangemap.proofs.CallerLemmas.{value_of}
use Rattle.rangemap.proofs.IncomingLemmas.{listed}
use Rattle.rangemap.proofs.ItemsLemmas.{array_inserted}
use Rattle.rangemap.proofs.NumberLemmas.{same_number}
use Rattle.rangemap.specs.Ranges.{half_open}
use Rattle.examples.proofs.calling.put_both.Goals as goal

pub extend-requires-clause-non_empty : goal.extend-requires-clause-non_empty
extend-requires-clause-non_empty c it h = listed (half_open nat_cmp) array_into_iter_items h.2 it _ h.0 (refl, (refl, tt))

pub returns-clause-early : goal.returns-clause-early
returns-clause-early c = array_inserted c.extend.result c.extend.ensures.items (λ it becomes. becomes.0) (λ ok hour below. grind (arith, nat_tests, value_of same_number ok hour tt))

pub returns-clause-late : goal.returns-clause-late
returns-clause-late c = array_inserted c.extend.result c.extend.ensures.items (λ it becomes. becomes.0) (λ ok hour from to. grind (arith, nat_tests, value_of same_number ok hour tt))

pub returns-clause-behind : goal.returns-clause-behind
returns-clause-behind c = array_inserted c.extend.result c.extend.ensures.items (λ it becomes. becomes.0) (λ ok hour from. grind (arith, nat_tests, value_of same_number ok hour tt))
