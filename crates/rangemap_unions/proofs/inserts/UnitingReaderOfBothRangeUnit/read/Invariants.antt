use Rattle.std.proofs.Common.{◌||◌, length}
use Rattle.rangemap_core.specs.Ranges.{covers}
use Rattle.rangemap_core.specs.Sets.{ranges}
use Rattle.rangemap_unions.proofs.InsertLemmas.{IsGathered}
use Rattle.rangemap_unions.proofs.inserts.UnitingReaderOfBothRangeUnit.read.Given as goal

-- the store and the items to come have the keys of either set
abbrev pub invariant-loop-items : goal.invariant-loop-items
invariant-loop-items g l =
    let k = g.S.Kind.Kind.kind in
    IsGathered k
    (λ x. covers k (ranges (g.C.Cursor.left l.fn.left)) x || covers k (ranges (g.C.Cursor.left l.fn.right)) x)
    l.items
    (ranges (g.S.Store.pairs l.all))

abbrev pub decreases-loop-items : goal.decreases-loop-items
decreases-loop-items g l = length l.items
