use Rattle.std.proofs.Common.{arith, ◌+◌}
use Rattle.rangemap.proofs.LoopLemmas.{last_set_gap, next_set_gap}
use Rattle.rangemap.proofs.Loops.{asks_for_gaps}
use Rattle.rangemap.proofs.NumberKinds.{half_open_unsigned}
use Rattle.examples.proofs.calling.room_for.Goals as goal

pub returns-then-gap-size-clause-found : goal.returns-then-gap-size-clause-found
returns-then-gap-size-clause-found c =
    let gap = next_set_gap half_open_unsigned c.args.held.now c.args.within.now (search asks_for_gaps) c.loop-gap.invariant (c.in-Some.is, c.in-Ok.is) in
    (gap.from, omega (arith, gap.to, gap.forward, c.if-gap-size.true), λ x from to. gap.lacks x from (omega (arith, gap.forward, c.if-gap-size.true)))

pub returns-clause-none : goal.returns-clause-none
returns-clause-none c = λ first from to lacks.
    let last = last_set_gap half_open_unsigned c.args.held.now c.args.within.now (search asks_for_gaps) c.loop-gap.invariant c.in-None.is in
    let one = last first (first + c.args.size) (record { forward = omega (arith, c.requires); first_is_key = tt; last_is_key = tt }) from to lacks in
    omega (arith, one.kept, one.starts, one.ends)
