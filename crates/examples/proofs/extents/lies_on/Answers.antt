use Rattle.std.proofs.Common.{arith, ◌+◌, ◌-◌, ◌%◌, ◌^◌}
use Rattle.std.proofs.lemmas.Bool.Decides.{nat_tests}
use Rattle.examples.proofs.RingLemmas.{step_on_ring}
use Rattle.examples.proofs.extents.lies_on.Goals as goal

pub returns-then-first-place-clause-yes : goal.returns-then-first-place-clause-yes
returns-then-first-place-clause-yes c =
    let far = (c.args.first + (2 ^ 32 - (c.args.start + c.args.shift) % 2 ^ 32)) % 2 ^ 32 in
    let there = step_on_ring c.args.start c.args.shift c.args.first c.ranges.first.fits in
    λ h. record { block = c.args.start + far; behind = omega arith; ahead = grind (arith, nat_tests); from = omega (arith, there); to = omega (arith, there, c.requires.asked) }
