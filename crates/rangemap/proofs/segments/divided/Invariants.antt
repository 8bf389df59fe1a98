use Rattle.std.proofs.Common.{length}
use Rattle.std.specs.Option.{option_eq}
use Rattle.std.specs.Vec.Iter.{into_iter_items}
use Rattle.rangemap_core.specs.Ranges.{Alike, value_at}
use Rattle.rangemap_core.specs.Segments.{segments_of}
use Rattle.rangemap_core.proofs.SegmentLemmas.{clipped}
use Rattle.rangemap.proofs.segments.divided.Given as goal

-- what is left of the pairs makes of what was made so far the whole
abbrev pub invariant-pairs : goal.invariant-pairs
invariant-pairs g l =
    let k = g.M.Kind.Kind.kind in
    Alike k (option_eq g.M.Value.PartialEq.eq) (clipped k l.query (into_iter_items l.rest) (value_at k l.all)) (segments_of k (value_at k (g.M.Container.pairs l.container)) l.query)

abbrev pub decreases-pairs : goal.decreases-pairs
decreases-pairs g l = length (into_iter_items l.rest)
