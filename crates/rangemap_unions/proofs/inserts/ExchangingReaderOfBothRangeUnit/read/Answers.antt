use Rattle.rangemap_unions.proofs.InsertLemmas.{gathered_first, gathered_next}
use Rattle.rangemap_unions.proofs.inserts.ExchangingReaderOfBothRangeUnit.read.Goals as goal

pub loop-parts-init : goal.loop-parts-init
loop-parts-init g c = gathered_first g.met.S.Kind.Kind.has_places _ _ _ c.requires.3 c.over-parts.ensures.one_only.points

pub loop-parts-preserved : goal.loop-parts-preserved
loop-parts-preserved g c =
    gathered_next g.met.S.Kind.Kind.has_places g.met.S.Kind.Kind.has_places (g.S.Store.pairs c.loop-parts.one_only) (g.S.Store.pairs c.insert.new.self) _ _ _ _
    c.loop-parts.invariant (rw c.in-Some.is at c.in_ok-part.ensures.ok) c.in_ok-insert.ensures.ok
