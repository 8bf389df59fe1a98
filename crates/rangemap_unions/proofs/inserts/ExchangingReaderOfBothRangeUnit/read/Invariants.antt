use Rattle.std.proofs.Common.{◌&&◌, ◌||◌, length, not}
use Rattle.rangemap_core.specs.Ranges.{covers}
use Rattle.rangemap_core.specs.Sets.{ranges}
use Rattle.rangemap_unions.proofs.InsertLemmas.{IsGathered}
use Rattle.rangemap_unions.proofs.inserts.ExchangingReaderOfBothRangeUnit.read.Given as goal

-- the store and the parts to come have the keys that exactly one of the sets has
abbrev pub invariant-loop-parts : goal.invariant-loop-parts
invariant-loop-parts g l =
    let k = g.S.Kind.Kind.kind in
    let left = covers k (ranges (g.C.Cursor.left l.fn.left)) in
    let right = covers k (ranges (g.C.Cursor.left l.fn.right)) in
    IsGathered k (λ x. (left x && not (right x)) || (right x && not (left x))) l.parts (ranges (g.S.Store.pairs l.one_only))

abbrev pub decreases-loop-parts : goal.decreases-loop-parts
decreases-loop-parts g l = length l.parts
