use Rattle.std.proofs.Common.{◌∙◌}
use Rattle.rangemap_core.proofs.UniquenessLemmas.{alike_from_same, equal_pairs}
use Rattle.rangemap_laws.proofs.comparisons.equal_exactly_when_alike.Goals as goal

pub returns-clause-equal : goal.returns-clause-equal
returns-clause-equal g c = c.eq.ensures ∙ g.met.M.Container.equal c.args.left.now c.args.right.now

pub returns-clause-alike : goal.returns-clause-alike
returns-clause-alike g c =
    let p = g.met.M.Kind.Kind.placed in
    let e = g.met.M.Value.Eq.laws in
    let k = g.M.Kind.Kind.kind in
    let eq = g.M.Value.PartialEq.eq in
    let left = g.M.Container.pairs c.args.left.now in
    let right = g.M.Container.pairs c.args.right.now in
    rw (returns-clause-equal g c) (
      alike_from_same k p eq e left right c.known.ensures c.known-2.ensures,
      equal_pairs k p eq e left right c.known.ensures c.known-2.ensures,
    )
