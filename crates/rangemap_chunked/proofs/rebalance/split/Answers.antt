use Rattle.std.proofs.Common.{arith, ◌≡◌, ◌∙◌, ◌<◌, List, ap, get_or, length, subst, sym}
use Rattle.std.proofs.Math.ListN.{set}
use Rattle.std.proofs.lemmas.List.{get_or_default}
use Rattle.rangemap_chunked.specs.Chunks.{AreFilled, whole}
use Rattle.rangemap_chunked.proofs.StoreLemmas.{split_filled, split_whole}
use Rattle.rangemap_chunked.proofs.rebalance.split.Goals as goal
use Rattle.rangemap_chunked.proofs.rebalance.split.Goals.{then-is_last+then-this-gt0, else-is_last}

pub returns-in-Ok-split_off-clause-whole : goal.returns-in-Ok-split_off-clause-whole
returns-in-Ok-split_off-clause-whole g c =
    let chunks = c.reserve.new.self.items in
    let bound = subst (λ (ps : List (List (g.row.R.Denot × g.row.V.Denot))). c.args.at < length ps) (sym c.reserve.ensures.items) c.requires.in_bounds in
    split_whole chunks (set chunks c.args.at c.split_off.new.self) c.insert_reserved.new.list.items c.args.at _ c.index_mut-chunk.result.now c.in-Ok-split_off.back bound c.index_mut-chunk.ensures.value
    (ap (λ (xs : List (g.row.R.Denot × g.row.V.Denot)). set chunks c.args.at xs) c.in-Ok-split_off.ensures.ok) c.in-Ok-split_off.ensures.rest c.insert_reserved.ensures
    ∙ ap (λ (ps : List (List (g.row.R.Denot × g.row.V.Denot))). whole ps) c.reserve.ensures.items

pub returns-in-Ok-split_off-clause-filled : goal.returns-in-Ok-split_off-clause-filled
returns-in-Ok-split_off-clause-filled g c =
    let chunks = c.reserve.new.self.items in
    let bound = subst (λ (ps : List (List (g.row.R.Denot × g.row.V.Denot))). c.args.at < length ps) (sym c.reserve.ensures.items) c.requires.in_bounds in
    let mid = c.index_mut-chunk.result.now in
    let within : (0 < c.if-is_last.place) × (c.if-is_last.place < c.len-len.result) = elim c.if-is_last.branch [
      | then-is_last+then-this-gt0 w ↦ (omega arith, omega arith)
      | else-is_last w ↦ (omega arith, omega arith)
    ] in
    let len : length mid ≡ c.len-len.result = ap length (c.index_mut-chunk.ensures.value ∙ ap (λ (ps : List (List (g.row.R.Denot × g.row.V.Denot))). get_or ps c.args.at mid) c.reserve.ensures.items ∙ get_or_default c.args.chunks.now.items c.args.at mid c.index.result.now c.requires.in_bounds ∙ sym c.index.ensures) ∙ sym c.len-len.ensures in
    split_filled chunks (set chunks c.args.at c.split_off.new.self) c.insert_reserved.new.list.items c.args.at _ mid c.in-Ok-split_off.back bound c.index_mut-chunk.ensures.value
    (ap (λ (xs : List (g.row.R.Denot × g.row.V.Denot)). set chunks c.args.at xs) c.in-Ok-split_off.ensures.ok) c.in-Ok-split_off.ensures.rest c.insert_reserved.ensures
    within.0 (omega (arith, within.1, len)) (subst (λ (ps : List (List (g.row.R.Denot × g.row.V.Denot))). AreFilled ps) (sym c.reserve.ensures.items) c.requires.filled)
