use Rattle.std.proofs.Common.{arith}
use Rattle.std.proofs.lemmas.Bool.Decides.{nat_tests}
use Rattle.rangemap.proofs.SetNumberLemmas.{added_between, covers_more, one_more_added}
use Rattle.examples.proofs.calling.add_all.Goals as goal
use Rattle.examples.proofs.calling.add_all.Goals.{then-range+in_ok-insert, else-range}

pub loop-range-preserved : goal.loop-range-preserved
loop-range-preserved c = λ key.
    let more = covers_more c.args.ranges.now c.loop-range.range-index (record { start = 0; end = 0 }) c.loop-range-test.true key in
    elim c.if-range.branch [
      | then-range+in_ok-insert w ↦ rw w.set-is (one_more_added _ _ _ (c.loop-range.invariant key) more (added_between _ _ _ w.in_ok-insert.ensures.ok key))
      | else-range w ↦ grind (arith, nat_tests, c.loop-range.invariant key, more, w.set-is, w.if-range.false)
    ]
