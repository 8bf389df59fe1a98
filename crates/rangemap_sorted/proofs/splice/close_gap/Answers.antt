use Rattle.std.proofs.Common.{arith}
use Rattle.rangemap_sorted.proofs.SpliceLemmas.{all_forward, gap_closed, one_forward}
use Rattle.rangemap_sorted.proofs.splice.close_gap.Goals as goal

pub loop-at-preserved : goal.loop-at-preserved
loop-at-preserved g c = rw c.swap.ensures.after (one_forward c.args.list.now c.loop-at.list c.args.count c.loop-at.at c.requires.some (omega arith) c.loop-at.invariant)

pub returns-then-bytes-gt-TURN_ROOM_BYTES-clause-kept : goal.returns-then-bytes-gt-TURN_ROOM_BYTES-clause-kept
returns-then-bytes-gt-TURN_ROOM_BYTES-clause-kept g c = all_forward c.args.list.now c.loop-at.list c.args.count c.loop-at.at (omega arith) c.loop-at.invariant

pub returns-clause-kept : goal.returns-clause-kept
returns-clause-kept g c =
    let split = c.split_at_mut-blocks in
    gap_closed c.args.list.now split.result.0.now split.result.1.now c.turn_left.new.list c.swap_with_slice.new.self _ c.swap_with_slice.new.other c.args.count _ split.ensures.value (omega (arith, split.ensures.front_len)) (omega (arith, split.ensures.front_len)) c.turn_left.ensures c.swap_with_slice.ensures.after
