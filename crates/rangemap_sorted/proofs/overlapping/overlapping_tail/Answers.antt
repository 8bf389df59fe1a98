use Rattle.std.proofs.Common.{arith, ◌≡◌, ◌-◌, length, take, drop, length-drop, subst}
use Rattle.std.specs.List.{take_while}
use Rattle.std.specs.List.Sorted.{IsPartitionedBy}
use Rattle.std.proofs.lemmas.List.{take_all}
use Rattle.rangemap_sorted.proofs.OverlapLemmas.{all_begun, begun, begun_first}
use Rattle.rangemap_core.proofs.PartitionLemmas.{parted-drop}
use Rattle.rangemap_core.specs.Ranges.{overlapped}
use Rattle.rangemap_core.specs.engine.Intervals.{is_begun}
use Rattle.rangemap_sorted.proofs.ReadLemmas.{begun_alike}
use Rattle.rangemap_sorted.proofs.overlapping.overlapping_tail.Goals as goal

pub returns : goal.returns
returns g c =
    let k = g.Q.Kind.kind in
    let pairs = c.args.pairs.now in
    let q = c.args.query.now in
    let from = c.overlap_start.result in
    let whole : take (length pairs - from) (drop from pairs) ≡ drop from pairs = take_all (length pairs - from) (drop from pairs) (omega (arith, length-drop from pairs)) in
    let has_end = g.R.KeyRange.has_end in
    let same = begun_alike g.met.Q.Kind.reads has_end {V = g.row.V.Denot} q in
    record {
      overlapped = rw whole (subst (λ test. take_while test (drop from pairs) ≡ overlapped k pairs q) same (begun g.met.Q.Kind.placed g.V.PartialEq.eq g.met.Q.Kind.interval q c.known_ends.ensures pairs from c.requires c.overlap_start.ensures.point));
      begun_first = rw whole (subst (λ test. IsPartitionedBy test (drop from pairs)) same (parted-drop (is_begun k has_end q) from pairs (begun_first g.met.Q.Kind.placed g.V.PartialEq.eq g.met.Q.Kind.interval q pairs c.requires)));
      all = λ every. rw whole (all_begun g.met.Q.Kind.placed g.V.PartialEq.eq q c.known_ends.ensures pairs from c.requires c.overlap_start.ensures.point every);
    }
