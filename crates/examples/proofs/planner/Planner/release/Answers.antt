use Rattle.std.proofs.Common.{arith, ◌^◌}
use Rattle.std.proofs.lemmas.Result.{on_ok_weaker}
use Rattle.rangemap.proofs.NumberKinds.{closed_unsigned}
use Rattle.rangemap.proofs.NumberLemmas.{removed, same_number}
use Rattle.examples.proofs.planner.Planner.release.Goals as goal

pub returns-clause-free : goal.returns-clause-free
returns-clause-free c =
    on_ok_weaker c.remove.result
    (λ ok at from to. (removed (closed_unsigned (2 ^ 32)) same_number c.new.result ok).within at (omega (arith, c.ranges.last.fits)) (omega (arith, c.new.ensures.start)) (omega (arith, c.new.ensures.end)))
    c.remove.ensures.ok
