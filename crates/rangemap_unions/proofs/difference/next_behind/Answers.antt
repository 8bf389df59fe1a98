use Rattle.std.proofs.Common.{◌∙◌, ◌∷◌, ap, sym}
use Rattle.rangemap_core.specs.Sets.{ranges}
use Rattle.rangemap_unions.specs.Parts.{parts_left}
use Rattle.rangemap_unions.proofs.difference.next_behind.Goals as goal

pub returns-then-is_before-clause-parts : goal.returns-then-is_before-clause-parts
returns-then-is_before-clause-parts g c passed range ps starts =
    c.early.invariant.parts passed range ps starts ∙ ap (λ rs. parts_left g.Q.Kind.kind g.Q.Kind.end_place g.Q.Kind.part_of passed (range ∷ ps) (ranges rs)) (sym c.peek.ensures.same)

pub returns-clause-parts : goal.returns-clause-parts
returns-clause-parts g c passed range ps starts =
    c.early.invariant.parts passed range ps starts ∙ ap (λ rs. parts_left g.Q.Kind.kind g.Q.Kind.end_place g.Q.Kind.part_of passed (range ∷ ps) (ranges rs)) (sym c.peek.ensures.same)
