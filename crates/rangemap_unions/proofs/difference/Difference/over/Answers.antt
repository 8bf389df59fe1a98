use Rattle.std.proofs.Common.{subst, sym}
use Rattle.rangemap_core.specs.Sets.{AreWithout, ranges}
use Rattle.rangemap_unions.proofs.PartLemmas.{are_without}
use Rattle.rangemap_unions.proofs.StepLemmas.{none_passed}
use Rattle.rangemap_unions.proofs.difference.Difference.over.Goals as goal

pub returns-clause-items : goal.returns-clause-items
returns-clause-items g c = none_passed g.Q.Kind.kind g.Q.Kind.end_place g.Q.Kind.part_of (ranges (g.C.Cursor.left c.args.left)) (ranges (g.C.Cursor.left c.args.right))

pub returns-clause-without : goal.returns-clause-without
returns-clause-without g c =
    let k = g.Q.Kind.kind in
    let ps = ranges (g.C.Cursor.left c.args.left) in
    let qs = ranges (g.C.Cursor.left c.args.right) in
    subst (AreWithout k ps qs) (sym (none_passed k g.Q.Kind.end_place g.Q.Kind.part_of ps qs)) (are_without g.met.Q.Kind.placed ps qs c.requires.left c.requires.right)
