use Rattle.std.proofs.Common.{arith, ◌∙◌, ap, length}
use Rattle.std.proofs.lemmas.List.{take_all}
use Rattle.rangemap_chunked.specs.Chunks.{whole}
use Rattle.rangemap_chunked.proofs.TouchLemmas.{counted_fits, counted_more}
use Rattle.rangemap_chunked.proofs.changes.count.Goals as goal

pub overflow_add-count : goal.overflow_add-count
overflow_add-count g c =
    let sum = counted_fits c.args.chunks.now c.loop-chunk.chunk-index c.chunk-item.result (omega arith) c.chunk-item.is in
    omega (arith, sum, c.len-count.ensures, c.loop-chunk.invariant, c.requires)

pub loop-chunk-preserved : goal.loop-chunk-preserved
loop-chunk-preserved g c =
    let sum = counted_more c.args.chunks.now c.loop-chunk.chunk-index c.chunk-item.result (omega arith) c.chunk-item.is in
    omega (arith, sum, c.len-count.ensures, c.loop-chunk.invariant)

pub returns : goal.returns
returns g c =
    let all = take_all c.loop-chunk.chunk-index c.args.chunks.now (omega arith) in
    c.loop-chunk.invariant ∙ ap (λ ps. length (whole ps)) all
