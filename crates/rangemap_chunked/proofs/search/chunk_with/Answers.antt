use Rattle.std.proofs.Common.{arith, rules, Some, subst, sym}
use Rattle.std.proofs.lemmas.Fn.{always_returns_same}
use Rattle.rangemap_core.specs.Ranges.{IsCanonical}
use Rattle.rangemap_core.specs.engine.Shape.{PassesUpTo}
use Rattle.rangemap_core.proofs.PlaceLemmas.{S}
use Rattle.rangemap_chunked.specs.Chunks.{chunk_by}
use Rattle.rangemap_chunked.proofs.ChunkLemmas.{by_parted, found_chunk, no_chunk}
use Rattle.rangemap_chunked.proofs.CutLemmas.{canonical_chunk}
use Rattle.rangemap_chunked.proofs.search.chunk_with.Goals as goal
use Rattle.rangemap_chunked.proofs.search.chunk_with.Goals.{After-partition_point-count}

-- the search counts the chunks that start by the key
counted : (g : _) (c : After-partition_point-count g) → PassesUpTo (chunk_by (S g.met.Q.Kind.placed g.V.PartialEq.eq) (Some c.args.key.now)) c.args.chunks.now c.partition_point-count.result
counted g c = c.partition_point-count.ensures.partitioned (chunk_by (S g.met.Q.Kind.placed g.V.PartialEq.eq) (Some c.args.key.now)) (always_returns_same _ _ _ (λ a r f called. search rules)) (by_parted g.met.Q.Kind.placed g.met.V.Eq.laws c.args.chunks.now c.requires (Some c.args.key.now))

pub returns-clause-same : goal.returns-clause-same
returns-clause-same g c =
    let found = c.partition_point-count in
    let point = counted g (goal.at.returns-clause-same g c).After-partition_point-count in
    found_chunk g.met.Q.Kind.placed g.met.V.Eq.laws c.args.chunks.now c.requires c.args.key.now c.known.ensures found.result found.ensures.bound point c.in_ok-at.at c.in_ok-at.ensures.1 c.index-chunks-at.result (omega (arith, c.in_ok-at.ensures.0, c.in_ok-at.ensures.1, found.ensures.bound)) c.index-chunks-at.is

pub returns-in_err-at-clause-same : goal.returns-in_err-at-clause-same
returns-in_err-at-clause-same g c =
    let point = counted g (goal.at.returns-in_err-at-clause-same g c).After-partition_point-count in
    rw c.from_residual.ensures (no_chunk g.met.Q.Kind.placed g.met.V.Eq.laws c.args.chunks.now c.requires c.args.key.now c.known.ensures c.partition_point-count.result (omega (arith, c.in_err-at.ensures)) point)

pub returns-clause-canonical : goal.returns-clause-canonical
returns-clause-canonical g c =
    let k = g.Q.Kind.kind in
    let eq = g.V.PartialEq.eq in
    subst (IsCanonical k eq) (sym c.index-chunks-at.is) (canonical_chunk k eq c.args.chunks.now c.requires.canonical c.in_ok-at.at c.index-chunks-at.result (omega (arith, c.in_ok-at.ensures.0, c.in_ok-at.ensures.1, c.partition_point-count.ensures.bound)))
