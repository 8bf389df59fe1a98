use Rattle.std.proofs.Common.{arith, ◌∙◌, ◌+◌, ◌++◌, [], List, ap, refl, subst, sym}
use Rattle.rangemap_chunked.specs.Chunks.{AreFilled, whole}
use Rattle.rangemap_chunked.proofs.HalvesLemmas.{AreHalves, first_at, halves_kept, halves_lent, last_at}
use Rattle.rangemap_chunked.proofs.JoinLemmas.{IsJoined, joined}
use Rattle.rangemap_chunked.proofs.rebalance.join_small.Goals as goal
use Rattle.rangemap_chunked.proofs.rebalance.join_small.Goals.{After-cut, After-split_at_mut-front}

halves : (g : _) (c : After-split_at_mut-front g) → AreHalves c.args.chunks.now.items c.args.at (c.args.at + 1) c.split_at_mut-front.result.0.now c.split_at_mut-front.result.1.now c.args.chunks.now.len
halves g c = halves_lent c.deref_mut.result.now (record { order = omega arith; bound = omega arith }) c.deref_mut.ensures.value c.deref_mut.ensures.len c.split_at_mut-front.ensures.front c.split_at_mut-front.ensures.back

-- the two chunks became one
one : (g : _) (c : After-cut g) → IsJoined c.args.chunks.now.items c.cut.new.list.items
one g c =
    let h = halves g (goal.at.After-cut g c).After-split_at_mut-front in
    let a = c.index-front-at.result in
    let b = c.index-back-0.result in
    joined h _ c.cut.new.list.items c.append.new.self c.append.new.other (c.in-Ok.ensures.ok.0 ∙ (λ i. (first_at h a []) i ++ (last_at h b []) i)) c.in-Ok.ensures.ok.1 c.cut.ensures.items

pub returns-clause-whole : goal.returns-clause-whole
returns-clause-whole g c = (one g c).whole_is

pub returns-clause-filled : goal.returns-clause-filled
returns-clause-filled g c = (one g c).filled c.requires

pub returns-clause-joined : goal.returns-clause-joined
returns-clause-joined g c = λ _. (one g c).one_less

pub returns-in_default-clause-apart : goal.returns-in_default-clause-apart
returns-in_default-clause-apart g c = λ _. halves_kept (halves g (goal.at.returns-in_default-clause-apart g c).After-split_at_mut-front) _ c.append.new.self c.append.new.other c.index-front-at.result c.index-back-0.result c.in_default.ensures.err.0 c.in_default.ensures.err.1

pub returns-in_default-clause-whole : goal.returns-in_default-clause-whole
returns-in_default-clause-whole g c = ap (λ (ps : List (List (g.row.R.Denot × g.row.V.Denot))). whole ps) (returns-in_default-clause-apart g c refl)

pub returns-in_default-clause-filled : goal.returns-in_default-clause-filled
returns-in_default-clause-filled g c = subst (λ (ps : List (List (g.row.R.Denot × g.row.V.Denot))). AreFilled ps) (sym (returns-in_default-clause-apart g c refl)) c.requires
