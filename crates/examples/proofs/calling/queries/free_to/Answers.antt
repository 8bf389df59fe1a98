use Rattle.std.proofs.Common.{Ok, Some, None, arith, false, true, refl, subst, sym, ◌^◌, ◌<◌, ◌+◌, ◌≡◌}
use Rattle.std.specs.Ordering.{nat_cmp}
use Rattle.rangemap.specs.MadeRanges.{TakesRange}
use Rattle.rangemap.specs.Ranges.{closed, covers}
use Rattle.rangemap.proofs.FirstGapLemmas.{first_set_gap, some_set_gap}
use Rattle.rangemap.proofs.LoopLemmas.{exact_closed}
use Rattle.rangemap.proofs.Loops.{asks_first_gap}
use Rattle.rangemap.proofs.NumberKinds.{closed_storable, closed_unsigned, unsigned}
use Rattle.examples.proofs.calling.queries.free_to.Goals as goal

pub returns : goal.returns
returns c =
    let k = closed (λ x. x < 2 ^ 32) nat_cmp in
    let made = c.new-range.ensures in
    let asked = closed_storable unsigned (λ x. x < 2 ^ 32) c.new-range.result (omega (arith, made.start, c.requires.forward, c.ranges.last.fits)) (omega (arith, made.end, c.ranges.last.fits)) (omega (arith, made.start, made.end, c.requires.forward)) made.exhausted in
    let bare = subst (λ x. covers k c.args.taken.now x ≡ false) (sym made.start) c.requires.free in
    let taken = subst (λ item. TakesRange k c.gaps.result item c.try_next.new.self) c.in-Ok-Some.field-0-is c.in-Ok-Some.ensures.ok in
    let gap = first_set_gap (closed_unsigned (2 ^ 32)) exact_closed c.args.taken.now c.new-range.result asked (asks_first_gap {result = Some (Ok c.in-Ok-Some.gap)} _ _ c.gaps.ensures taken) bare (refl, refl) in (
      omega (arith, gap.forward, made.start, c.end.ensures),
      omega (arith, gap.within, made.end, c.end.ensures),
      λ x from to. gap.lacks x (omega (arith, made.start)) (omega (arith, c.end.ensures)),
      λ below. subst (λ last. covers k c.args.taken.now (last + 1) ≡ true) (sym c.end.ensures) (gap.ends (omega (arith, made.end, c.end.ensures))),
    )

pub unreachable-requires : goal.unreachable-requires
unreachable-requires c =
    let k = closed (λ x. x < 2 ^ 32) nat_cmp in
    let made = c.new-range.ensures in
    let asked = closed_storable unsigned (λ x. x < 2 ^ 32) c.new-range.result (omega (arith, made.start, c.requires.forward, c.ranges.last.fits)) (omega (arith, made.end, c.ranges.last.fits)) (omega (arith, made.start, made.end, c.requires.forward)) made.exhausted in
    let bare = subst (λ x. covers k c.args.taken.now x ≡ false) (sym made.start) c.requires.free in
    let taken = subst (λ item. TakesRange k c.gaps.result item c.try_next.new.self) c.in-Ok-None.field-0-is c.in-Ok-None.ensures.ok in
    some_set_gap (closed_unsigned (2 ^ 32)) exact_closed c.args.taken.now c.new-range.result asked (asks_first_gap {result = None} _ _ c.gaps.ensures taken) bare refl
