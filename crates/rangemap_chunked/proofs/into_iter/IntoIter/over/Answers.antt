use Rattle.std.proofs.Common.{List, subst, sym}
use Rattle.rangemap_chunked.specs.Chunks.{AreFilled}
use Rattle.rangemap_chunked.proofs.into_iter.IntoIter.over.Goals as goal

pub invariant_of-result : goal.invariant_of-result
invariant_of-result g c = subst (λ (ps : List (List (g.row.R.Denot × g.row.V.Denot))). AreFilled ps) (sym c.into_iter.ensures.rest) c.requires
