use Rattle.std.proofs.Common.{◌≡◌, ◌≤◌, true, length, take, vec_len, vec_capacity}
use Rattle.rangemap_core.specs.Ranges.{IsStorable, same_pairs}
use Rattle.rangemap_core.specs.engine.Stretch.{Every}
use Rattle.rangemap_chunked.specs.Chunks.{AreFilled, AreChunks, whole}
use Rattle.rangemap_chunked.proofs.chunks.ChunksStoreMut.copy.Given as goal

abbrev pub invariant-loop-chunk : goal.invariant-loop-chunk
invariant-loop-chunk g l = record {
  chunked : AreChunks g.Q.Kind.kind g.V.PartialEq.eq l.chunk-items;
  storable : Every (λ a. IsStorable g.Q.Kind.kind a.0) (whole l.chunks.items);
  filled : AreFilled l.chunks.items;
  same : same_pairs g.Q.Kind.kind g.V.PartialEq.eq (whole (take l.chunk-index l.chunk-items)) (whole l.chunks.items) ≡ true;
  as_many : vec_len l.chunks ≡ l.chunk-index;
  room : length l.chunk-items ≤ vec_capacity l.chunks;
}
