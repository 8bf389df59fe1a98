-- The faults of a range that is to get a value.
use Rattle.std.proofs.Common.{rules, refl, inl, ◌≡◌, Err}
use Rattle.rangerun_library.proofs.Reading.{pair_fault}
use Rattle.rangerun_library.proofs.command.parse_valued.Goals as goal

pub returns-in_err-span-in-insert : goal.returns-in_err-span-in-insert
returns-in_err-span-in-insert g c =
    let told : c.from_residual.result ≡ Err c.in_err-span-in-insert.field-0.0 = search rules in
    let clauses = c.in_err-span-in-insert.ensures in
    rw told (pair_fault g.R.KeyRange g.R.Debug c.args.name.now c.args.start.now c.args.end.now c.args.value.now _ (c.in-insert.is, refl) (inl c.in-insert.is) clauses.succeeds clauses.number clauses.empty clauses.value)
