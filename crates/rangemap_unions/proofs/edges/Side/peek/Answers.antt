use Rattle.std.proofs.Common.{◌∙◌, ap, sym}
use Rattle.rangemap_core.specs.Sets.{ranges}
use Rattle.rangemap_core.specs.Shown.{shown_range}
use Rattle.rangemap_unions.proofs.EdgeStepLemmas.{next_edge}
use Rattle.rangemap_unions.proofs.edges.Side.peek.Goals as goal

pub returns-clause-next : goal.returns-clause-next
returns-clause-next g c =
    let side = c.self.inside in
    let first = c.in_ok-pair.ensures.first in
    let next = next_edge side.is_inside (ranges (g.C.Cursor.left side.cursor)) (shown_range g.C.Cursor.given c.in_ok-pair.pair) (ranges first.0) (ap ranges first.1) in
    (next.0, sym c.self.view_is ∙ next.1)
