use Rattle.std.proofs.Common.{arith, ◌+◌}
use Rattle.rangemap.proofs.Loops.{asks_for_gaps}
use Rattle.rangemap.proofs.NumberKinds.{half_open_unsigned}
use Rattle.rangemap.proofs.NumberLemmas.{last_gap, next_gap}
use Rattle.examples.proofs.memory_map.MemoryMap.find_free.Goals as goal

pub returns-then-gap-size-clause-found : goal.returns-then-gap-size-clause-found
returns-then-gap-size-clause-found c =
    let gap = next_gap half_open_unsigned c.args.self.now.regions (record { start = c.args.start; end = c.args.end }) (search asks_for_gaps) c.loop-gap.invariant (c.in-Some.is, c.in-Ok.is) in
    record {
      from = gap.from;
      fits = omega (arith, gap.to, gap.forward, c.if-gap-size.true);
      free = λ at from to. gap.free at from (omega (arith, to, gap.forward, c.if-gap-size.true));
      lowest = λ lower from below free.
          let one = gap.earlier lower (lower + c.args.size) (record { forward = omega (arith, c.requires); first_is_key = tt; last_is_key = tt }) from (omega (arith, gap.to, gap.forward, c.if-gap-size.true, below)) free below in
          omega (arith, one.kept, one.starts, one.ends);
    }

pub returns-clause-none : goal.returns-clause-none
returns-clause-none c = λ first from fits free.
    let last = last_gap half_open_unsigned c.args.self.now.regions (record { start = c.args.start; end = c.args.end }) (search asks_for_gaps) c.loop-gap.invariant c.in-None.is in
    let one = last first (first + c.args.size) (record { forward = omega (arith, c.requires); first_is_key = tt; last_is_key = tt }) from fits free in
    omega (arith, one.kept, one.starts, one.ends)
