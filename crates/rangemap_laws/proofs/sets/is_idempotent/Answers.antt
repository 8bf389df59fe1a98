use Rattle.std.proofs.lemmas.Result.{IfOk-weaker}
use Rattle.rangemap_core.specs.Ranges.{covers}
use Rattle.rangemap_laws.proofs.JoinedLemmas.{joined_idempotent, own, same_of}
use Rattle.rangemap_laws.proofs.sets.is_idempotent.Goals as goal

pub returns-clause-equal : goal.returns-clause-equal
returns-clause-equal g c =
    let k = g.S.Kind.Kind.kind in
    IfOk-weaker c.apply.result _ _
    (λ made is. same_of k g.met.S.Kind.Kind.placed _ _ _ _ is (own k c.args.first.now c.known.ensures) (λ x. joined_idempotent c.args.operator (covers k c.args.first.now) x))
    c.apply.ensures
