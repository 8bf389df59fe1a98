use Rattle.std.proofs.Common.{refl}
use Rattle.rangemap_laws.proofs.EndLemmas.{tries_go}
use Rattle.rangemap_laws.proofs.iterators.try_next_ends_tries.Goals as goal

pub returns-clause-calls : goal.returns-clause-calls
returns-clause-calls g c = (
  c.try_next-first.new.arg2,
  c.try_next-again.new.arg2,
  record { shown = _; shows = refl; left = _; met = c.try_next-first.ensures; leaves = refl },
  record { shown = _; shows = refl; left = _; met = c.try_next-again.ensures; leaves = refl },
  c.next-item.ensures.steps,
)

pub returns-clause-ends : goal.returns-clause-ends
returns-clause-ends g c = λ left goes tries.
    let calls = returns-clause-calls g c in
    (tries_go left c.args.iter.now calls.0 calls.1 c.next-item.new.self goes tries c.try_next-first.result c.try_next-again.result c.next-item.result calls.2 calls.3 calls.4).0

pub returns-clause-stays : goal.returns-clause-stays
returns-clause-stays g c = λ left goes tries.
    let calls = returns-clause-calls g c in
    (tries_go left c.args.iter.now calls.0 calls.1 c.next-item.new.self goes tries c.try_next-first.result c.try_next-again.result c.next-item.result calls.2 calls.3 calls.4).1
