use Rattle.std.proofs.Common.{◌≡◌, ◌∙◌, ◌-◌, List, ap, length, subst, sym}
use Rattle.std.specs.Prelude.{slice_get}
use Rattle.rangemap_chunked.specs.Chunks.{AreFilled, whole}
use Rattle.rangemap_chunked.proofs.EndLemmas.{last_pair}
use Rattle.rangemap_chunked.proofs.chunks.ChunksStore.last.Goals as goal
use Rattle.rangemap_chunked.proofs.chunks.ChunksStore.last.Goals.{After-as_slice}

-- the last pair of the last chunk is that of all
last_is : (g : _) (c : After-as_slice g) → slice_get c.as_slice.result.now (length c.as_slice.result.now - 1) ≡ slice_get c.args.self.now (length c.args.self.now - 1)
last_is g c =
    let item = c.in_ok-chunk.ensures.item in
    ap (λ (xs : List (g.row.R.Denot × g.row.V.Denot)). slice_get xs (length xs - 1)) c.as_slice.ensures
    ∙ last_pair c.deref.result.now c.in_ok-chunk.chunk.now item.3.0 (subst (λ (ps : List (List (g.row.R.Denot × g.row.V.Denot))). AreFilled ps) (sym c.deref.ensures.value) c.self.invariant.0.filled) item.1
    ∙ ap (λ (xs : List (g.row.R.Denot × g.row.V.Denot)). slice_get xs (length xs - 1)) (ap (λ (ps : List (List (g.row.R.Denot × g.row.V.Denot))). whole ps) c.deref.ensures.value ∙ c.self.view_is)

pub returns : goal.returns
returns g c = c.in_ok-pair.ensures.value ∙ last_is g (goal.at.returns g c).After-as_slice

pub returns-in_err-pair : goal.returns-in_err-pair
returns-in_err-pair g c = rw c.from_residual-in_err-pair.ensures (c.in_err-pair.ensures.value ∙ last_is g (goal.at.returns-in_err-pair g c).After-as_slice)
