use Rattle.rangemap_core.specs.Sets.{ranges}
use Rattle.rangemap_unions.proofs.EdgeStepLemmas.{none_passed}
use Rattle.rangemap_unions.proofs.edges.Side.over.Goals as goal

pub returns : goal.returns
returns g c = none_passed (ranges (g.C.Cursor.left c.args.cursor))
