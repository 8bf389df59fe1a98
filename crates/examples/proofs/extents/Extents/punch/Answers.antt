use Rattle.std.proofs.Common.{arith, option_map, ap, ◌%◌, ◌+◌, ◌^◌}
use Rattle.std.proofs.lemmas.Result.{on_ok_weaker}
use Rattle.rangemap.proofs.NumberKinds.{closed_unsigned}
use Rattle.rangemap.proofs.NumberLemmas.{removed, same_number}
use Rattle.examples.proofs.ChangeLemmas.{after_either}
use Rattle.examples.proofs.ExtentLemmas.{one_to_one_punched}
use Rattle.examples.specs.Extents.{IsOneToOne}
use Rattle.examples.proofs.extents.Extents.punch.Goals as goal

pub invariant_of-self : goal.invariant_of-self
invariant_of-self c = record { one_to_one = after_either IsOneToOne c.args.self.now.shifts c.remove.new.self c.remove.result (one_to_one_punched c.args.self.now.shifts c.remove.new.self c.new.result c.args.self.now.one_to_one) c.args.self.now.one_to_one c.remove.ensures.ok c.remove.ensures.err }

pub returns-clause-hole : goal.returns-clause-hole
returns-clause-hole c =
    on_ok_weaker c.remove.result
    (λ ok block from to. ap (option_map (λ shift. (block + shift) % 2 ^ 32)) ((removed (closed_unsigned (2 ^ 32)) same_number c.new.result ok).within block (omega (arith, c.ranges.last.fits)) (omega (arith, c.new.ensures.start)) (omega (arith, c.new.ensures.end))))
    c.remove.ensures.ok
