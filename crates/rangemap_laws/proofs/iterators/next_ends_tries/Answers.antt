use Rattle.std.proofs.Common.{refl}
use Rattle.rangemap_laws.proofs.EndLemmas.{next_goes}
use Rattle.rangemap_laws.proofs.iterators.next_ends_tries.Goals as goal

pub returns-clause-ends : goal.returns-clause-ends
returns-clause-ends g c = λ left goes tries.
    (next_goes left c.args.iter.now c.next-item.new.self c.try_next-tried.new.arg2 c.next-last.new.self goes tries c.next-item.result c.try_next-tried.result c.next-last.result
    c.next-item.ensures.steps (record { shown = _; shows = refl; left = _; met = c.try_next-tried.ensures; leaves = refl }) c.next-last.ensures.steps).0

pub returns-clause-stays : goal.returns-clause-stays
returns-clause-stays g c = λ left goes tries.
    (next_goes left c.args.iter.now c.next-item.new.self c.try_next-tried.new.arg2 c.next-last.new.self goes tries c.next-item.result c.try_next-tried.result c.next-last.result
    c.next-item.ensures.steps (record { shown = _; shows = refl; left = _; met = c.try_next-tried.ensures; leaves = refl }) c.next-last.ensures.steps).1
