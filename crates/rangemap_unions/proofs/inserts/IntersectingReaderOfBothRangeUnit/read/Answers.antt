use Rattle.std.proofs.Common.{refl}
use Rattle.rangemap_unions.proofs.InsertLemmas.{gathered_first, gathered_next}
use Rattle.rangemap_unions.proofs.IntersectionLemmas.{intersection_taken}
use Rattle.rangemap_unions.proofs.inserts.IntersectingReaderOfBothRangeUnit.read.Goals as goal

pub loop-items-init : goal.loop-items-init
loop-items-init g c = gathered_first g.met.S.Kind.Kind.has_places _ _ _ c.requires.3
    (intersection_taken g.met.S.Kind.Kind.has_places _ _ _ _ _ refl refl c.over-items.ensures.items c.requires.1 c.requires.2).points

pub loop-items-preserved : goal.loop-items-preserved
loop-items-preserved g c =
    gathered_next g.met.S.Kind.Kind.has_places g.met.S.Range.KeyRange.has_places (g.S.Store.pairs c.loop-items.common) (g.S.Store.pairs c.insert.new.self) _ _ _ _
    c.loop-items.invariant (rw c.in-Some.is at c.in_ok-item.ensures.ok) c.in_ok-insert.ensures.ok
