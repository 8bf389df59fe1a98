use Rattle.rangemap_core.specs.Ranges.{covers}
use Rattle.rangemap.specs.Joined.{joined, minus, other_of}
use Rattle.rangemap_laws.proofs.JoinedLemmas.{joined_of, minus_of, minus_turns_over, own, same_of}
use Rattle.rangemap_laws.proofs.sets.turns_over.Goals as goal

pub returns-clause-left : goal.returns-clause-left
returns-clause-left g c =
    let k = g.S.Kind.Kind.kind in
    minus_of k (covers k c.args.first.now) (joined c.args.operator (covers k c.args.second.now) (covers k c.args.third.now)) _ _ _ (own k c.args.first.now c.known.ensures) c.in_ok-inner.ensures c.in_ok-left.ensures

pub returns-clause-right : goal.returns-clause-right
returns-clause-right g c =
    let k = g.S.Kind.Kind.kind in
    joined_of k (other_of c.args.operator) (minus (covers k c.args.first.now) (covers k c.args.second.now)) (minus (covers k c.args.first.now) (covers k c.args.third.now)) _ _ _ c.in_ok-near.ensures c.in_ok-far.ensures (rw c.other.ensures at c.in_ok-right.ensures)

pub returns-clause-equal : goal.returns-clause-equal
returns-clause-equal g c =
    let k = g.S.Kind.Kind.kind in
    same_of k g.met.S.Kind.Kind.placed _ _ _ _ (returns-clause-left g c) (returns-clause-right g c) (λ x. minus_turns_over (covers k c.args.first.now) (covers k c.args.second.now) x c.args.operator (covers k c.args.third.now))
