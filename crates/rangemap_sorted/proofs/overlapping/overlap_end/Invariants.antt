use Rattle.std.proofs.Common.{◌≡◌, ◌-◌, ◌≤◌, length, true}
use Rattle.std.specs.List.{AllWithin}
use Rattle.rangemap_core.specs.engine.Shape.{shape_of}
use Rattle.rangemap_core.specs.engine.Stretch.{starts_within}
use Rattle.rangemap_sorted.proofs.overlapping.overlap_end.Given as goal

abbrev pub invariant-on : goal.invariant-on
invariant-on g l = record {
  from : l.start ≤ l.at;
  bound : l.at ≤ length l.pairs;
  begun : AllWithin (λ b. starts_within (shape_of g.Q.Kind.kind g.Q.Kind.end_place g.V.PartialEq.eq) l.query b ≡ true) l.pairs l.start l.at;
}

abbrev pub decreases-on : goal.decreases-on
decreases-on g l = length l.pairs - l.at
