use Rattle.std.proofs.Common.{rules}
use Rattle.std.proofs.lemmas.Fn.{always_returns_same}
use Rattle.rangemap_core.proofs.PlaceLemmas.{S}
use Rattle.rangemap_chunked.specs.Chunks.{chunk_below}
use Rattle.rangemap_chunked.proofs.ChunkLemmas.{below_parted, ends_past}
use Rattle.rangemap_chunked.proofs.search.met_chunks_end.Goals as goal

pub returns-clause-clear : goal.returns-clause-clear
returns-clause-clear g c =
    let found = c.first_failing in
    let p = g.met.Q.Kind.placed in
    let e = g.met.V.Eq.laws in
    let end = g.Q.Kind.end_place c.args.range.now in
    ends_past p e c.args.chunks.now c.requires.chunked c.args.range.now found.result found.ensures.bound
    (found.ensures.failing (chunk_below (S p g.V.PartialEq.eq) end) (always_returns_same _ _ _ (λ a r f called. search rules)) (below_parted p e c.args.chunks.now c.requires.chunked end))

pub returns-clause-begun : goal.returns-clause-begun
returns-clause-begun g c =
    let end = g.Q.Kind.end_place c.args.range.now in
    c.first_failing.ensures.passing (chunk_below (S g.met.Q.Kind.placed g.V.PartialEq.eq) end) (always_returns_same _ _ _ (λ a r f called. search rules)) (below_parted g.met.Q.Kind.placed g.met.V.Eq.laws c.args.chunks.now c.requires.chunked end)

pub returns-clause-behind : goal.returns-clause-behind
returns-clause-behind g c =
    let end = g.Q.Kind.end_place c.args.range.now in
    c.first_failing.ensures.behind (chunk_below (S g.met.Q.Kind.placed g.V.PartialEq.eq) end) (always_returns_same _ _ _ (λ a r f called. search rules)) (below_parted g.met.Q.Kind.placed g.met.V.Eq.laws c.args.chunks.now c.requires.chunked end)
