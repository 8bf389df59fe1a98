use Rattle.std.proofs.Common.{arith, ◌+◌, ◌^◌}
use Rattle.rangemap.proofs.Loops.{asks_for_gaps}
use Rattle.rangemap.proofs.NumberKinds.{closed_unsigned}
use Rattle.rangemap.proofs.NumberLemmas.{last_gap, next_gap}
use Rattle.examples.proofs.planner.Planner.first_free.Goals as goal

pub returns-then-last-first-clause-found : goal.returns-then-last-first-clause-found
returns-then-last-first-clause-found c =
    let gap = next_gap (closed_unsigned (2 ^ 32)) c.args.self.now.blocks c.new-all.result (search asks_for_gaps) c.loop-gap.invariant (c.in-Some.is, c.in-Ok.is) in
    record {
      fits = omega (arith, gap.stored.end_is_key, gap.forward, c.start-first.ensures, c.end-last.ensures);
      free = λ at from to. gap.free at (omega (arith, c.start-first.ensures)) (omega (arith, gap.forward, c.start-first.ensures, c.end-last.ensures));
      lowest = λ lower low free.
          let one = gap.earlier lower (lower + c.args.size)
          (record { forward = omega (arith, c.requires); first_is_key = omega (arith, gap.stored.start_is_key, c.start-first.ensures); last_is_key = omega (arith, gap.stored.end_is_key, gap.forward, c.start-first.ensures, c.end-last.ensures) })
          (omega (arith, c.new-all.ensures.start)) (omega (arith, gap.to, gap.forward, c.start-first.ensures, c.end-last.ensures)) free (omega (arith, c.start-first.ensures)) in
          omega (arith, one.kept, one.starts, one.ends);
    }

pub returns-clause-none : goal.returns-clause-none
returns-clause-none c = λ first fits free.
    let last = last_gap (closed_unsigned (2 ^ 32)) c.args.self.now.blocks c.new-all.result (search asks_for_gaps) c.loop-gap.invariant c.in-None.is in
    let one = last first (first + c.args.size) (record { forward = omega (arith, c.requires); first_is_key = omega (arith, c.requires); last_is_key = omega (arith, c.requires) }) (omega (arith, c.new-all.ensures.start)) (omega (arith, c.new-all.ensures.end)) free in
    omega (arith, one.kept, one.starts, one.ends)
