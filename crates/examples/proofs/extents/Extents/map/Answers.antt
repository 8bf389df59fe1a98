use Rattle.std.proofs.Common.{ap, arith, ◌+◌, ◌-◌, ◌%◌, ◌^◌}
use Rattle.std.specs.Prelude.{option_map}
use Rattle.rangemap.proofs.NumberKinds.{closed_unsigned}
use Rattle.rangemap.proofs.NumberLemmas.{inserted, same_number}
use Rattle.examples.proofs.ChangeLemmas.{after_either}
use Rattle.examples.proofs.ExtentLemmas.{one_to_one_mapped}
use Rattle.examples.proofs.RingLemmas.{lies_within}
use Rattle.examples.specs.Extents.{IsOneToOne}
use Rattle.examples.proofs.extents.Extents.map.Goals as goal

pub invariant_of-self : goal.invariant_of-self
invariant_of-self c =
    let more = c.args.count - 1 in
    record {
      one_to_one = after_either IsOneToOne c.args.self.now.shifts c.insert.new.self c.insert.result
          (one_to_one_mapped c.args.self.now.shifts c.insert.new.self c.new.result ((c.args.physical + (2 ^ 32 - c.args.logical)) % 2 ^ 32) c.args.physical (c.args.physical + more) c.args.self.now.one_to_one (c.is_used.ensures.free c.if-is_used.false)
          (λ block from to. lies_within c.args.logical c.args.physical more block c.ranges.logical.fits (omega (arith, c.requires.physical_fits, c.requires.some)) (omega (arith, c.new.ensures.start)) (omega (arith, c.new.ensures.end))))
          c.args.self.now.one_to_one c.insert.ensures.ok c.insert.ensures.err;
    }

pub returns-clause-before : goal.returns-clause-before
returns-clause-before c = λ block ahead.
    let stored = inserted (closed_unsigned (2 ^ 32)) same_number c.new.result c.in_ok-insert.ensures.ok in
    ap (option_map (λ shift. (block + shift) % 2 ^ 32)) (stored.before block (omega (arith, ahead, c.ranges.logical.fits)) (omega (arith, ahead, c.new.ensures.start)))
