use Rattle.std.proofs.Common.{◌≡◌, ◌∙◌, ◌<◌, ◌^◌, Bool, ap, arith, false, not, refl, sym, true, true≢false}
use Rattle.rangemap.proofs.NumberKinds.{closed_storable, closed_unsigned, unsigned}
use Rattle.rangemap.proofs.OverlapLemmas.{apart_where_lacks, lacks_by_overlaps}
use Rattle.examples.proofs.calling.queries.is_free.Goals as goal

is_false : (b : Bool) → not b ≡ true → b ≡ false
is_false false h = refl
is_false true h = absurd (true≢false (sym h))

pub returns : goal.returns
returns c =
    let n = closed_unsigned (2 ^ 32) in
    let made = c.new-range.ensures in
    let asked = closed_storable unsigned (λ x. x < 2 ^ 32) c.new-range.result (omega (arith, made.start, c.requires, c.ranges.last.fits)) (omega (arith, made.end, c.ranges.last.fits)) (omega (arith, made.start, made.end, c.requires)) made.exhausted in (
      λ yes x from to. lacks_by_overlaps n c.args.taken.now c.overlaps.ensures.canonical c.new-range.result asked (sym c.overlaps.ensures.any ∙ is_false _ yes) x (omega (arith, made.start)) (omega (arith, made.end)),
      λ lacks. ap not (c.overlaps.ensures.any ∙ apart_where_lacks n c.args.taken.now c.overlaps.ensures.canonical c.new-range.result asked (λ x from to. lacks x (omega (arith, made.start)) (omega (arith, made.end)))),
    )
