use Rattle.std.proofs.Common.{◌≡◌, ◌-◌, ◌≤◌, length, true}
use Rattle.std.specs.List.{AllWithin}
use Rattle.rangemap_core.specs.engine.Intervals.{is_begun}
use Rattle.rangemap_sorted.proofs.overlapping.take_begun.Given as goal

abbrev pub invariant-on : goal.invariant-on
invariant-on g l = record {
  bound : l.at ≤ length l.pairs;
  begun : AllWithin (λ pair. is_begun g.R.KeyRange.read g.R.KeyRange.has_end l.query pair ≡ true) l.pairs 0 l.at;
}

abbrev pub decreases-on : goal.decreases-on
decreases-on g l = length l.pairs - l.at
