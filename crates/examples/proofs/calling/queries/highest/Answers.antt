use Rattle.std.proofs.Common.{arith, ◌-◌, length}
use Rattle.std.specs.Ordering.{nat_cmp}
use Rattle.rangemap.specs.Ranges.{half_open}
use Rattle.rangemap.proofs.NumberKinds.{half_open_unsigned}
use Rattle.rangemap.proofs.NumberLemmas.{forward}
use Rattle.rangemap.proofs.SetMetLemmas.{range_is_stored}
use Rattle.examples.proofs.calling.queries.highest.Goals as goal

pub returns : goal.returns
returns c =
    let range = c.in-Some.range.now in
    let is = range_is_stored (half_open nat_cmp) c.args.shifts.now (length c.args.shifts.now - 1) c.in-Some.ensures.canonical c.in-Some.ensures.found in
    let full = forward half_open_unsigned range is.stored in
    is.covered (range.end - 1) (half_open_unsigned.holds range (range.end - 1) (omega (arith, full)) (omega (arith, full)))
