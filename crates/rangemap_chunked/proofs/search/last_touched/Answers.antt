use Rattle.std.proofs.Common.{rules, ◌≡◌, ◌≤◌, List, length, subst, sym}
use Rattle.std.proofs.lemmas.Fn.{always_returns_same}
use Rattle.std.specs.List.Sorted.{IsPartitionedBy}
use Rattle.rangemap_core.specs.engine.Shape.{PassesUpTo, starts_by}
use Rattle.rangemap_core.proofs.PlaceLemmas.{S, places, to_spaced}
use Rattle.rangemap_core.proofs.SearchLemmas.{starts_parted}
use Rattle.rangemap_chunked.proofs.TouchLemmas.{last_is}
use Rattle.rangemap_chunked.proofs.search.last_touched.Goals as goal

pub returns : goal.returns
returns g c =
    let p = g.met.Q.Kind.placed in
    let eq = g.V.PartialEq.eq in
    let end = g.Q.Kind.end_place c.args.range.now in
    let chunk = c.args.chunk.now in
    let found = c.partition_point-count in
    let test = starts_by (S p eq) end in
    let pairs_is : c.as_slice-pairs.result.now ≡ chunk = c.as_slice-pairs.ensures in
    let point = found.ensures.partitioned test (always_returns_same _ _ _ (λ a r f called. search rules)) (subst (λ (xs : List (g.row.R.Denot × g.row.V.Denot)). IsPartitionedBy test xs) (sym pairs_is) (starts_parted (S p eq) (places p eq) chunk (to_spaced p eq chunk c.requires.canonical) end)) in
    last_is (S p eq) (places p eq) c.args.range.now chunk c.requires.filled c.requires.begun found.result
    (subst (λ (xs : List (g.row.R.Denot × g.row.V.Denot)). found.result ≤ length xs) pairs_is found.ensures.bound)
    (subst (λ (xs : List (g.row.R.Denot × g.row.V.Denot)). PassesUpTo test xs found.result) pairs_is point)
    c.saturating_sub.result c.saturating_sub.ensures
