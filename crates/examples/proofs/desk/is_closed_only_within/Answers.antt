use Rattle.std.proofs.Common.{arith, rules, ◌^◌, ◌≤◌, refl, sym, true≢false}
use Rattle.std.specs.Range.{range_inclusive_end, range_inclusive_start}
use Rattle.rangemap.proofs.LoopLemmas.{covered_by_items}
use Rattle.rangemap.proofs.Loops.{LendsRanges, lends_again}
use Rattle.rangemap.proofs.NumberKinds.{closed_unsigned}
use Rattle.rangemap.proofs.SetLoopLemmas.{set_item_is_stored}
use Rattle.examples.specs.Desk.{days}
use Rattle.examples.proofs.desk.is_closed_only_within.Goals as goal
use Rattle.examples.proofs.desk.is_closed_only_within.Goals.{then-start-first-via-then-start-first, then-start-first-via-else-start-first+then-end-last}

-- a range that reaches out of the days has a day there, on which the house is closed
pub returns-then-start-first : goal.returns-then-start-first
returns-then-start-first c =
    let lends : LendsRanges c.args.days.now c.loop-range.yielded c.next.result = search lends_again in
    let is = set_item_is_stored days c.iter-range-items.ensures.canonical lends c.in-Some.is in
    let range = c.in-Some.range.now in
    let n = closed_unsigned (2 ^ 32) in
    let first = range_inclusive_start range in
    let last = range_inclusive_end range in
    let forward : first ≤ last = search (rules, is.non_empty) in (
      λ no. absurd (true≢false (sym no)),
      λ within. absurd (elim c.then-start-first.branch [
        | then-start-first-via-then-start-first w ↦
            omega (arith, w.if-start-first.true, c.start.ensures, (within first (omega (arith, w.if-start-first.true, c.start.ensures, c.ranges.first.fits)) (is.covered first (n.holds range first (omega arith) (omega (arith, forward))))).0)
        | then-start-first-via-else-start-first+then-end-last w ↦
            omega (arith, w.if-end-last.true, w.end.ensures, (within last (omega (arith, w.end.ensures)) (is.covered last (n.holds range last (omega (arith, forward)) (omega arith)))).1)
      ]),
    )

-- at the end each day on which it is closed is one of a range that lies within
pub returns : goal.returns
returns c =
    let n = closed_unsigned (2 ^ 32) in
    let each = covered_by_items n.kind c.args.days.now (λ range. (c.args.first ≤ range_inclusive_start range) × (range_inclusive_end range ≤ c.args.last)) (search lends_again) c.loop-range.invariant c.in-None.is in (
      λ _ day is_key there.
          let one = each day there in
          (omega (arith, one.kept.0, n.from one.range day one.holds), omega (arith, one.kept.1, n.to one.range day one.holds)),
      λ _. refl,
    )
