use Rattle.std.proofs.lemmas.Result.{IfOk-weaker}
use Rattle.rangemap_core.specs.Ranges.{covers}
use Rattle.rangemap.specs.Joined.{joined, minus}
use Rattle.rangemap.specs.declared.range_set.operators.Operator.TheVariants.{Intersection, Union}
use Rattle.rangemap_laws.proofs.JoinedLemmas.{joined_of, minus_makes_up, own, same_of}
use Rattle.rangemap_laws.proofs.sets.makes_up.Goals as goal

pub returns-clause-made : goal.returns-clause-made
returns-clause-made g c =
    let k = g.S.Kind.Kind.kind in
    let first = covers k c.args.first.now in
    let second = covers k c.args.second.now in
    IfOk-weaker c.bitor.result _ _
    (λ made is. joined_of k Union (minus first second) (joined Intersection first second) _ _ _ c.in_ok-rest.ensures c.in_ok-common.ensures is)
    c.bitor.ensures

pub returns-clause-equal : goal.returns-clause-equal
returns-clause-equal g c =
    let k = g.S.Kind.Kind.kind in
    IfOk-weaker c.bitor.result _ _
    (λ made is. same_of k g.met.S.Kind.Kind.placed _ _ _ _ is (own k c.args.first.now c.known.ensures) (λ x. minus_makes_up (covers k c.args.first.now) (covers k c.args.second.now) x))
    (returns-clause-made g c)
