-- The faults of a range to be changed.
use Rattle.std.proofs.Common.{rules, inl, inr, ◌≡◌, Err}
use Rattle.rangerun_library.proofs.Reading.{removes, span_fault}
use Rattle.rangerun_library.proofs.command.parse_ends.Goals as goal

pub returns-in_err-parse_span-in-insert : goal.returns-in_err-parse_span-in-insert
returns-in_err-parse_span-in-insert g c =
    let told : c.from_residual.result ≡ Err c.in_err-parse_span-in-insert.field-0.0 = search rules in
    let clauses = c.in_err-parse_span-in-insert.ensures in
    rw told (span_fault g.R.KeyRange g.R.Debug c.args.name.now c.args.start.now c.args.end.now c.args.has_value _ (rw c.if-has_value.false (inl c.in-insert.is)) (inl c.in-insert.is) clauses.succeeds clauses.number clauses.empty clauses.value)

pub returns-in_err-parse_span-in-remove : goal.returns-in_err-parse_span-in-remove
returns-in_err-parse_span-in-remove g c =
    let told : c.from_residual-in_err-parse_span-in-remove.result ≡ Err c.in_err-parse_span-in-remove.field-0.0 = search rules in
    let clauses = c.in_err-parse_span-in-remove.ensures in
    rw told (span_fault g.R.KeyRange g.R.Debug c.args.name.now c.args.start.now c.args.end.now c.args.has_value _ (removes c.args.name.now c.args.start.now c.args.end.now c.args.has_value c.in-remove.is) (inr (inl c.in-remove.is)) clauses.succeeds clauses.number clauses.empty clauses.value)
