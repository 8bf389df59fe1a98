use Rattle.std.proofs.Common.{◌≡◌, ◌≤◌, true, length, take, vec_len, vec_capacity}
use Rattle.rangemap_core.specs.Ranges.{IsCanonical, IsStorable, same_pairs}
use Rattle.rangemap_core.specs.engine.Stretch.{Every}
use Rattle.rangemap_sorted.proofs.entries.clones.clone_pairs.Given as goal

abbrev pub invariant-loop-pair : goal.invariant-loop-pair
invariant-loop-pair g l = record {
  canonical : IsCanonical g.Q.Kind.kind g.V.PartialEq.eq l.pairs;
  storable : Every (λ a. IsStorable g.Q.Kind.kind a.0) l.copy.items;
  same : same_pairs g.Q.Kind.kind g.V.PartialEq.eq (take l.pair-index l.pairs) l.copy.items ≡ true;
  as_many : vec_len l.copy ≡ l.pair-index;
  room : length l.pairs ≤ vec_capacity l.copy;
}
