use Rattle.std.proofs.lemmas.Result.{IfOk-weaker}
use Rattle.rangemap_core.specs.Ranges.{covers}
use Rattle.rangemap.specs.Joined.{exactly_one}
use Rattle.rangemap_laws.proofs.JoinedLemmas.{exactly_one_cancels, exactly_one_of, own, same_of}
use Rattle.rangemap_laws.proofs.sets.cancels.Goals as goal

pub returns-clause-made : goal.returns-clause-made
returns-clause-made g c =
    let k = g.S.Kind.Kind.kind in
    let first = covers k c.args.first.now in
    let second = covers k c.args.second.now in
    IfOk-weaker c.bitxor-2.result _ _
    (λ made is. exactly_one_of k (exactly_one first second) second _ _ _ c.in_ok-inner.ensures (own k c.args.second.now c.known-2.ensures) is)
    c.bitxor-2.ensures

pub returns-clause-equal : goal.returns-clause-equal
returns-clause-equal g c =
    let k = g.S.Kind.Kind.kind in
    IfOk-weaker c.bitxor-2.result _ _
    (λ made is. same_of k g.met.S.Kind.Kind.placed _ _ _ _ is (own k c.args.first.now c.known.ensures) (λ x. exactly_one_cancels (covers k c.args.first.now) (covers k c.args.second.now) x))
    (returns-clause-made g c)
