use Rattle.std.proofs.Common.{arith, sym, refl, ◌<◌, ◌^◌, ◌∙◌, true≢false}
use Rattle.std.specs.Prelude.{nat_eq}
use Rattle.rangemap.proofs.NumberKinds.{closed_storable, closed_unsigned, unsigned}
use Rattle.rangemap.proofs.NumberLemmas.{free_by_overlaps, held_by_overlaps, inserted, not_free_and_held, same_number}
use Rattle.examples.proofs.planner.Planner.reserve.Goals as goal

pub returns-then-overlaps-clause-granted : goal.returns-then-overlaps-clause-granted
returns-then-overlaps-clause-granted c =
    let asked = closed_storable unsigned (λ x. x < 2 ^ 32) c.new-block.result (omega (arith, c.new-block.ensures.start, c.requires, c.ranges.last.fits)) (omega (arith, c.new-block.ensures.end, c.ranges.last.fits)) (omega (arith, c.new-block.ensures.start, c.new-block.ensures.end, c.requires)) c.new-block.ensures.exhausted in
    let held = held_by_overlaps (closed_unsigned (2 ^ 32)) nat_eq c.args.self.now.blocks c.overlaps.ensures.canonical c.new-block.result asked (sym c.overlaps.ensures.any ∙ c.if-overlaps.true) in
    (λ e. absurd (true≢false (sym e)), λ free. absurd (not_free_and_held (closed_unsigned (2 ^ 32)) c.args.self.now.blocks held (free held.at (omega (arith, held.from, c.new-block.ensures.start)) (omega (arith, held.to, c.new-block.ensures.end)))))

pub returns-clause-granted : goal.returns-clause-granted
returns-clause-granted c =
    let asked = closed_storable unsigned (λ x. x < 2 ^ 32) c.new-block.result (omega (arith, c.new-block.ensures.start, c.requires, c.ranges.last.fits)) (omega (arith, c.new-block.ensures.end, c.ranges.last.fits)) (omega (arith, c.new-block.ensures.start, c.new-block.ensures.end, c.requires)) c.new-block.ensures.exhausted in
    let free = free_by_overlaps (closed_unsigned (2 ^ 32)) nat_eq c.args.self.now.blocks c.overlaps.ensures.canonical c.new-block.result asked (sym c.overlaps.ensures.any ∙ c.if-overlaps.false) in
    (λ e at from to. free at (omega (arith, c.new-block.ensures.start)) (omega (arith, c.new-block.ensures.end)), λ free. refl)

pub returns-clause-held : goal.returns-clause-held
returns-clause-held c = λ e at from to.
    (inserted (closed_unsigned (2 ^ 32)) same_number c.new-block.result c.in_ok-insert.ensures.ok).within at (omega (arith, c.ranges.last.fits)) (omega (arith, c.new-block.ensures.start)) (omega (arith, c.new-block.ensures.end))

pub returns-clause-before : goal.returns-clause-before
returns-clause-before c = λ at ahead.
    (inserted (closed_unsigned (2 ^ 32)) same_number c.new-block.result c.in_ok-insert.ensures.ok).before at (omega (arith, ahead, c.ranges.first.fits)) (omega (arith, ahead, c.new-block.ensures.start))
