use Rattle.rangemap_core.proofs.UniquenessLemmas.{alike_from_same, equal_pairs}
use Rattle.rangemap_laws.proofs.comparisons.lists_are_unique.Goals as goal

pub returns : goal.returns
returns g c = λ left right l r.
    let placed = g.met.Q.Kind.placed in
    let e = g.met.V.Eq.laws in (
      alike_from_same g.Q.Kind.kind placed g.V.PartialEq.eq e left right l r,
      equal_pairs g.Q.Kind.kind placed g.V.PartialEq.eq e left right l r,
    )
