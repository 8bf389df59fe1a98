use Rattle.rangemap_core.specs.Ranges.{covers}
use Rattle.rangemap.specs.Joined.{joined}
use Rattle.rangemap.specs.declared.range_set.operators.Operator.TheVariants.{Intersection, Union}
use Rattle.rangemap_laws.proofs.JoinedLemmas.{exactly_one_is, minus_of, same_of}
use Rattle.rangemap_laws.proofs.sets.is_either_without_common.Goals as goal

pub returns-clause-right : goal.returns-clause-right
returns-clause-right g c =
    let k = g.S.Kind.Kind.kind in
    minus_of k (joined Union (covers k c.args.first.now) (covers k c.args.second.now)) (joined Intersection (covers k c.args.first.now) (covers k c.args.second.now)) _ _ _ c.in_ok-either.ensures c.in_ok-common.ensures c.in_ok-right.ensures

pub returns-clause-equal : goal.returns-clause-equal
returns-clause-equal g c =
    let k = g.S.Kind.Kind.kind in
    same_of k g.met.S.Kind.Kind.placed _ _ _ _ c.in_ok-left.ensures (returns-clause-right g c) (λ x. exactly_one_is (covers k c.args.first.now) (covers k c.args.second.now) x)
