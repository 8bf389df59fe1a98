use Rattle.rangerun_library.proofs.Ends.{storable_holds}
use Rattle.rangerun_library.proofs.range.Span.new.Goals as goal

pub invariant_of-result : goal.invariant_of-result
invariant_of-result g c =
    let is = c.in-Some.ensures in
    record { non_empty = storable_holds g.R.KeyRange.read g.R.KeyRange.has_end g.met.R.KeyRange.interval g.met.R.KeyRange.order c.in-Some.field-0 c.args.start c.args.end is.0 is.1 is.2 }
