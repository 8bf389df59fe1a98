use Rattle.std.proofs.Common.{rules, Some}
use Rattle.std.proofs.lemmas.Fn.{always_returns_same}
use Rattle.rangemap_core.specs.engine.Shape.{PassesUpTo}
use Rattle.rangemap_core.proofs.PlaceLemmas.{S}
use Rattle.rangemap_chunked.specs.Chunks.{chunk_below}
use Rattle.rangemap_chunked.proofs.ChunkLemmas.{below_parted, starts_clear, starts_past}
use Rattle.rangemap_chunked.proofs.search.first_met_chunk.Goals as goal
use Rattle.rangemap_chunked.proofs.search.first_met_chunk.Goals.{After-partition_point-count}

-- the search counts the chunks that start before the range
counted : (g : _) (c : After-partition_point-count g) → PassesUpTo (chunk_below (S g.met.Q.Kind.placed g.V.PartialEq.eq) (Some (g.Q.Kind.kind.start c.args.range.now))) c.args.chunks.now c.partition_point-count.result
counted g c = c.partition_point-count.ensures.partitioned (chunk_below (S g.met.Q.Kind.placed g.V.PartialEq.eq) (Some (g.Q.Kind.kind.start c.args.range.now))) (always_returns_same _ _ _ (λ a r f called. search rules)) (below_parted g.met.Q.Kind.placed g.met.V.Eq.laws c.args.chunks.now c.requires (Some (g.Q.Kind.kind.start c.args.range.now)))

pub returns-clause-clear : goal.returns-clause-clear
returns-clause-clear g c =
    let found = c.partition_point-count in
    starts_clear g.met.Q.Kind.placed g.met.V.Eq.laws c.args.chunks.now c.requires c.args.range.now found.result found.ensures.bound (counted g (goal.at.returns-clause-clear g c).After-partition_point-count) c.saturating_sub.result c.saturating_sub.ensures

pub returns-clause-past : goal.returns-clause-past
returns-clause-past g c =
    let found = c.partition_point-count in
    starts_past g.met.Q.Kind.placed g.met.V.Eq.laws c.args.chunks.now c.requires c.args.range.now found.result found.ensures.bound (counted g (goal.at.returns-clause-past g c).After-partition_point-count) c.saturating_sub.result c.saturating_sub.ensures
