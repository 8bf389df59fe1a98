use Rattle.std.proofs.Common.{arith, ◌≡◌, ◌<◌, length}
use Rattle.rangemap_chunked.proofs.StoreLemmas.{filled_around, whole_without}
use Rattle.rangemap_chunked.proofs.rebalance.settle.Goals as goal

pub returns-then-len-eq0-clause-whole : goal.returns-then-len-eq0-clause-whole
returns-then-len-eq0-clause-whole g c =
    let none : length c.index-chunk.result.now ≡ 0 = grind (arith, c.len.ensures, c.if-len-eq0.true) in
    whole_without c.args.chunks.now.items c.cut.new.list.items c.args.at c.index-chunk.result.now c.requires.in_bounds c.index-chunk.ensures none c.cut.ensures.items

pub split-requires-clause-filled : goal.split-requires-clause-filled
split-requires-clause-filled g c =
    let some : 0 < length c.index-chunk.result.now = grind (arith, c.len.ensures, c.if-len-eq0.false) in
    filled_around c.args.chunks.now.items c.args.at c.index-chunk.result.now c.requires.in_bounds c.index-chunk.ensures some c.requires.before c.requires.behind

pub returns-then-not-is_resized-clause-filled : goal.returns-then-not-is_resized-clause-filled
returns-then-not-is_resized-clause-filled g c =
    let some : 0 < length c.index-chunk.result.now = grind (arith, c.len.ensures, c.if-len-eq0.false) in
    filled_around c.args.chunks.now.items c.args.at c.index-chunk.result.now c.requires.in_bounds c.index-chunk.ensures some c.requires.before c.requires.behind
