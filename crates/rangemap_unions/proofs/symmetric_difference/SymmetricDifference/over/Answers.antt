use Rattle.std.proofs.Common.{◌∙◌, ap₂, subst, sym}
use Rattle.rangemap_core.specs.Sets.{AreOneOnly, ranges}
use Rattle.rangemap_unions.specs.Edges.{crossed, parts_between}
use Rattle.rangemap_unions.proofs.EdgeLemmas.{are_one_only}
use Rattle.rangemap_unions.proofs.symmetric_difference.SymmetricDifference.over.Goals as goal

pub returns-clause-one_only : goal.returns-clause-one_only
returns-clause-one_only g c =
    let k = g.Q.Kind.kind in
    let end_place = g.Q.Kind.end_place in
    let ps = ranges (g.C.Cursor.left c.args.left) in
    let qs = ranges (g.C.Cursor.left c.args.right) in
    subst (AreOneOnly k ps qs)
    (ap₂ (λ es fs. parts_between k end_place g.Q.Kind.part_of (crossed k end_place es fs)) (sym c.over-sides.ensures.left) (sym c.over-sides.ensures.right) ∙ c.next_pair-pending.ensures.parts)
    (are_one_only g.met.Q.Kind.placed ps qs c.requires.left c.requires.right)
