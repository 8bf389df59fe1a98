use Rattle.std.proofs.Common.{◌&&◌, length, not}
use Rattle.rangemap_core.specs.Ranges.{covers}
use Rattle.rangemap_core.specs.Sets.{ranges}
use Rattle.rangemap_unions.proofs.InsertLemmas.{IsGathered}
use Rattle.rangemap_unions.proofs.inserts.SubtractingReaderOfBothRangeUnit.read.Given as goal

-- the store and the parts to come have the keys that the first set has and the second lacks
abbrev pub invariant-loop-parts : goal.invariant-loop-parts
invariant-loop-parts g l =
    let k = g.S.Kind.Kind.kind in
    IsGathered k
    (λ x. covers k (ranges (g.C.Cursor.left l.fn.left)) x && not (covers k (ranges (g.C.Cursor.left l.fn.right)) x))
    l.parts
    (ranges (g.S.Store.pairs l.rest))

abbrev pub decreases-loop-parts : goal.decreases-loop-parts
decreases-loop-parts g l = length l.parts
