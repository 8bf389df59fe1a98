use Rattle.std.proofs.lemmas.Result.{IfOk-weaker}
use Rattle.rangemap_core.specs.Ranges.{covers}
use Rattle.rangemap.specs.Joined.{joined, other_of}
use Rattle.rangemap_laws.proofs.JoinedLemmas.{joined_absorbs, joined_of, own, same_of}
use Rattle.rangemap_laws.proofs.sets.absorbs.Goals as goal

pub returns-clause-made : goal.returns-clause-made
returns-clause-made g c =
    let k = g.S.Kind.Kind.kind in
    let o = c.args.operator in
    IfOk-weaker c.apply-2.result _ _
    (λ made is. joined_of k o (covers k c.args.first.now) (joined (other_of o) (covers k c.args.first.now) (covers k c.args.second.now)) _ _ _ (own k c.args.first.now c.known.ensures) (rw c.other.ensures at c.in_ok-inner.ensures) is)
    c.apply-2.ensures

pub returns-clause-equal : goal.returns-clause-equal
returns-clause-equal g c =
    let k = g.S.Kind.Kind.kind in
    IfOk-weaker c.apply-2.result _ _
    (λ made is. same_of k g.met.S.Kind.Kind.placed _ _ _ _ is (own k c.args.first.now c.known.ensures) (λ x. joined_absorbs c.args.operator (covers k c.args.first.now) (covers k c.args.second.now) x))
    (returns-clause-made g c)
