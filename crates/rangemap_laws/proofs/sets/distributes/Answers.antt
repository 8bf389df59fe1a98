use Rattle.rangemap_core.specs.Ranges.{covers}
use Rattle.rangemap.specs.Joined.{joined, other_of}
use Rattle.rangemap_laws.proofs.JoinedLemmas.{joined_distributes, joined_of, own, same_of}
use Rattle.rangemap_laws.proofs.sets.distributes.Goals as goal

pub returns-clause-left : goal.returns-clause-left
returns-clause-left g c =
    let k = g.S.Kind.Kind.kind in
    let o = c.args.operator in
    joined_of k o (covers k c.args.first.now) (joined (other_of o) (covers k c.args.second.now) (covers k c.args.third.now)) _ _ _ (own k c.args.first.now c.known.ensures) (rw c.other-other.ensures at c.in_ok-inner.ensures) c.in_ok-left.ensures

pub returns-clause-right : goal.returns-clause-right
returns-clause-right g c =
    let k = g.S.Kind.Kind.kind in
    let o = c.args.operator in
    joined_of k (other_of o) (joined o (covers k c.args.first.now) (covers k c.args.second.now)) (joined o (covers k c.args.first.now) (covers k c.args.third.now)) _ _ _ c.in_ok-near.ensures c.in_ok-far.ensures (rw c.other-other.ensures at c.in_ok-right.ensures)

pub returns-clause-equal : goal.returns-clause-equal
returns-clause-equal g c =
    let k = g.S.Kind.Kind.kind in
    same_of k g.met.S.Kind.Kind.placed _ _ _ _ (returns-clause-left g c) (returns-clause-right g c) (λ x. joined_distributes (covers k c.args.first.now) (covers k c.args.second.now) (covers k c.args.third.now) x c.args.operator)
