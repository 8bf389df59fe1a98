use Rattle.std.proofs.Common.{◌≡◌, ap, sym, ◌∙◌, subst, true≢false, false, true}
use Rattle.std.specs.List.{take_while}
use Rattle.std.specs.List.Sorted.{IsPartitionedBy}
use Rattle.std.specs.Prelude.{if◌then◌else◌}
use Rattle.rangemap_core.proofs.PartitionLemmas.{first_passed, parted-rest}
use Rattle.rangemap_core.specs.engine.Intervals.{is_begun, reaches}
use Rattle.rangemap_sorted.proofs.overlapping.OverlappingCursor.take_first.Goals.{then-self, else-self}
use Rattle.rangemap_sorted.proofs.overlapping.OverlappingCursor.take_first.Goals as goal

pub invariant_of-self : goal.invariant_of-self
invariant_of-self g c =
    let test = λ (pair : g.row.R.Denot × g.row.V.Denot). is_begun g.R.KeyRange.read g.R.KeyRange.has_end c.self.inside.query.now pair in
    λ searched. parted-rest test c.in_ok-pair.pair.now c.in_ok-pair.rest.now (subst (IsPartitionedBy test) c.in_ok-pair.ensures.cases.0 (c.self.invariant searched))

pub returns-then-reaches : goal.returns-then-reaches
returns-then-reaches g c =
    let test = λ (pair : g.row.R.Denot × g.row.V.Denot). is_begun g.R.KeyRange.read g.R.KeyRange.has_end c.self.inside.query.now pair in
    let bounded = c.self.inside.is_bounded in
    let passes : bounded ≡ false → test c.in_ok-pair.pair.now ≡ true = elim c.if-self.branch [
      | then-self w ↦ λ searched. absurd (true≢false (sym w.if-self.true ∙ searched))
      | else-self w ↦ λ searched. ap (reaches g.R.KeyRange.read g.R.KeyRange.has_end (g.R.KeyRange.read.end c.self.inside.query.now)) (sym w.start.ensures) ∙ sym w.reaches.ensures ∙ sym w.value-is ∙ c.if-reaches.true
    ] in
    sym c.self.view_is ∙ ap (λ pairs. if bounded then pairs else take_while test pairs) c.in_ok-pair.ensures.cases.0 ∙ first_passed test bounded c.in_ok-pair.pair.now c.in_ok-pair.rest.now passes
