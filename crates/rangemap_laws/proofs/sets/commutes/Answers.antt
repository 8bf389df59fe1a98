use Rattle.rangemap_core.specs.Ranges.{covers}
use Rattle.rangemap_laws.proofs.JoinedLemmas.{joined_commutes, same_of}
use Rattle.rangemap_laws.proofs.sets.commutes.Goals as goal

pub returns-clause-equal : goal.returns-clause-equal
returns-clause-equal g c =
    let k = g.S.Kind.Kind.kind in
    same_of k g.met.S.Kind.Kind.placed _ _ _ _ c.in_ok-left.ensures c.in_ok-right.ensures (λ x. joined_commutes (covers k c.args.first.now) (covers k c.args.second.now) (covers k c.args.second.now) x c.args.operator)
