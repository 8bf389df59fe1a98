use Rattle.rangemap_core.specs.Ranges.{covers}
use Rattle.rangemap.specs.Joined.{joined}
use Rattle.rangemap_laws.proofs.JoinedLemmas.{joined_associates, joined_of, own, same_of}
use Rattle.rangemap_laws.proofs.sets.associates.Goals as goal

pub returns-clause-left : goal.returns-clause-left
returns-clause-left g c =
    let k = g.S.Kind.Kind.kind in
    let o = c.args.operator in
    joined_of k o (joined o (covers k c.args.first.now) (covers k c.args.second.now)) (covers k c.args.third.now) _ _ _ c.in_ok-front.ensures (own k c.args.third.now c.known-2.ensures) c.in_ok-left.ensures

pub returns-clause-right : goal.returns-clause-right
returns-clause-right g c =
    let k = g.S.Kind.Kind.kind in
    let o = c.args.operator in
    joined_of k o (covers k c.args.first.now) (joined o (covers k c.args.second.now) (covers k c.args.third.now)) _ _ _ (own k c.args.first.now c.known.ensures) c.in_ok-back.ensures c.in_ok-right.ensures

pub returns-clause-equal : goal.returns-clause-equal
returns-clause-equal g c =
    let k = g.S.Kind.Kind.kind in
    same_of k g.met.S.Kind.Kind.placed _ _ _ _ (returns-clause-left g c) (returns-clause-right g c) (λ x. joined_associates (covers k c.args.first.now) (covers k c.args.second.now) (covers k c.args.third.now) x c.args.operator)
