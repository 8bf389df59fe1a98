use Rattle.std.proofs.Common.{ap, option_map, sym, ◌%◌, ◌+◌, ◌^◌}
use Rattle.examples.proofs.extents.Extents.physical.Goals as goal

pub returns-clause-alone : goal.returns-clause-alone
returns-clause-alone c = λ other key is.
    c.args.self.now.one_to_one other c.args.logical _ key c.ranges.logical.fits is (ap (option_map (λ shift. (c.args.logical + shift) % 2 ^ 32)) (sym c.in_ok-shift.ensures))
