use Rattle.std.proofs.Common.{arith, rules, ◌≡◌, ◌<◌, get_or, length, false, sym}
use Rattle.std.specs.List.{AllWithin}
use Rattle.std.proofs.lemmas.Fn.{always_returns_same}
use Rattle.std.proofs.lemmas.List.{get_or_default}
use Rattle.rangemap_core.proofs.PartitionLemmas.{fails_from, take_while-up_to}
use Rattle.rangemap_core.specs.engine.Intervals.{is_begun}
use Rattle.rangemap_sorted.proofs.overlapping.take_begun.Goals as goal
use Rattle.rangemap_sorted.proofs.overlapping.take_begun.Goals.{then-on-test+else-reaches-2, else-on-test}

pub returns-then-reaches : goal.returns-then-reaches
returns-then-reaches g c =
    let test = λ (pair : g.row.R.Denot × g.row.V.Denot). is_begun g.R.KeyRange.read g.R.KeyRange.has_end c.args.query.now pair in
    let found = c.partition_point-count in
    sym (take_while-up_to test c.args.pairs.now found.result found.ensures.bound (found.ensures.partitioned test (always_returns_same _ _ _ (λ a r f called. search rules)) c.requires))

pub returns : goal.returns
returns g c =
    let test = λ (pair : g.row.R.Denot × g.row.V.Denot). is_begun g.R.KeyRange.read g.R.KeyRange.has_end c.args.query.now pair in
    let xs = c.args.pairs.now in
    let at = c.on.at in
    let behind : AllWithin (λ pair. test pair ≡ false) xs at (length xs) = elim c.on-test.branch [
      | then-on-test+else-reaches-2 w ↦
          let here : at < length xs = w.on-test.true in
          let no : is_begun g.R.KeyRange.read g.R.KeyRange.has_end c.args.query.now (get_or xs at w.index-pairs-at.result) ≡ false = search rules in
          fails_from test xs c.requires at (get_or xs at w.index-pairs-at.result) here (λ d. get_or_default xs at d w.index-pairs-at.result here) no at (omega arith)
      | else-on-test w ↦ λ i d l m. absurd (omega (arith, w.on-test.false, l, m))
    ] in
    sym (take_while-up_to test xs at c.on.invariant.bound (c.on.invariant.begun, behind))
