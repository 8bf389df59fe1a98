use Rattle.std.proofs.Common.{List, ◌++◌, filter, length}
use Rattle.std.specs.BTreeMap.Range.{range_contains}
use Rattle.std.specs.Range.Bound.{bound_map}
use Rattle.std.specs.declared.ops.Bound.TheVariants.{Excluded}
use Rattle.rangemap_tree.specs.Starts.{AreStarts}
use Rattle.rangemap_tree.proofs.by_start.ByStart.starts_between.Given as goal

-- the starts so far, and those of the pairs from here on, are the starts of all
abbrev pub invariant-pairs : goal.invariant-pairs
invariant-pairs g l = (more : List g.row.K.Denot) → AreStarts g.K.Ord.cmp l.pairs more → AreStarts g.K.Ord.cmp (filter (λ p. range_contains g.K.Ord.cmp (bound_map (λ x. x.now) l.fn.from) (Excluded l.fn.to) p.0.start) l.fn.self) (l.starts.items ++ more)

abbrev pub decreases-pairs : goal.decreases-pairs
decreases-pairs g l = length l.pairs
