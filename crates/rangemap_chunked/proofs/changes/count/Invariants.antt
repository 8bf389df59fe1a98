use Rattle.std.proofs.Common.{◌≡◌, length, take}
use Rattle.rangemap_chunked.specs.Chunks.{whole}
use Rattle.rangemap_chunked.proofs.changes.count.Given as goal

abbrev pub invariant-loop-chunk : goal.invariant-loop-chunk
invariant-loop-chunk g l = l.count ≡ length (whole (take l.chunk-index l.fn.chunks))
