use Rattle.std.proofs.Common.{arith, ◌+◌, ◌^◌}
use Rattle.rangemap.proofs.LoopLemmas.{last_set_gap, next_set_gap}
use Rattle.rangemap.proofs.Loops.{asks_for_gaps}
use Rattle.rangemap.proofs.NumberKinds.{closed_unsigned}
use Rattle.examples.proofs.calling.queries.block_for.Goals as goal

pub returns-then-end-at-clause-found : goal.returns-then-end-at-clause-found
returns-then-end-at-clause-found c =
    let gap = next_set_gap (closed_unsigned (2 ^ 32)) c.args.taken.now c.new-range.result (search asks_for_gaps) c.loop-gap.invariant (c.in-Some.is, c.in-Ok.is) in (
      omega (arith, gap.from, c.new-range.ensures.start, c.start-at.ensures),
      omega (arith, gap.to, gap.forward, c.new-range.ensures.end, c.start-at.ensures, c.end-end.ensures),
      λ x from to. gap.lacks x (omega (arith, c.start-at.ensures)) (omega (arith, gap.forward, c.start-at.ensures, c.end-end.ensures)),
    )

pub returns-clause-none : goal.returns-clause-none
returns-clause-none c = λ at from to lacks.
    let last = last_set_gap (closed_unsigned (2 ^ 32)) c.args.taken.now c.new-range.result (search asks_for_gaps) c.loop-gap.invariant c.in-None.is in
    let one = last at (at + c.args.size) (record { forward = omega (arith, c.requires); first_is_key = omega (arith, c.requires, c.ranges.last.fits); last_is_key = omega (arith, c.requires, c.ranges.last.fits) }) (omega (arith, c.new-range.ensures.start)) (omega (arith, c.new-range.ensures.end)) lacks in
    omega (arith, one.kept, one.starts, one.ends)
