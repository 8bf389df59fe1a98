use Rattle.std.proofs.Common.{arith, ◌≡◌, ◌∙◌, ◌+◌, ◌∷◌, [], ap, false, inl, inr, sym, true, true≢false}
use Rattle.std.proofs.lemmas.Bool.{cases_lt}
use Rattle.std.proofs.lemmas.List.{get_or_default}
use Rattle.rangemap_core.proofs.PartitionLemmas.{fails_from}
use Rattle.rangemap_chunked.proofs.search.first_failing.Goals as goal
use Rattle.rangemap_chunked.proofs.search.first_failing.Goals.{else-next-items-via-then-next-items+else-passes, else-next-items-via-else-next-items}

pub returns-clause-failing : goal.returns-clause-failing
returns-clause-failing g c = λ test computes parted. elim c.else-next-items.branch [
  | else-next-items-via-then-next-items+else-passes w ↦
      let next = c.args.at + 1 in
      let item = w.index-items-next.result in
      let call = (g.met.P.FnMut.1.post_iff c.args.passes _ w.passes.result).0 w.passes.ensures in
      let failed : test item ≡ false = sym (computes.at (_ ∷ []) w.passes.result call.0 call.1).0 ∙ w.if-passes.false in
      fails_from test c.args.items.now parted next item w.if-next-items.true (λ d. get_or_default c.args.items.now next d item w.if-next-items.true ∙ sym w.index-items-next.is) failed next (omega arith)
  | else-next-items-via-else-next-items w ↦ λ k d l m. absurd (omega (arith, w.if-next-items.false))
]

pub returns-then-passes-clause-behind : goal.returns-then-passes-clause-behind
returns-then-passes-clause-behind g c = λ test computes parted.
    let items = c.args.items.now in
    let next = c.args.at + 1 in
    let item = c.index-items-next.result in
    let here = c.if-next-items.true in
    let call = (g.met.P.FnMut.1.post_iff c.args.passes _ c.passes.result).0 c.passes.ensures in
    let passed : test item ≡ true = sym (computes.at (_ ∷ []) c.passes.result call.0 call.1).0 ∙ c.if-passes.true in
    let point = c.partition_point.ensures.partitioned test computes parted in
    elim (cases_lt c.args.at c.partition_point.result) [
      | inl less ↦ less
      | inr more ↦ absurd (true≢false (sym passed ∙ ap test (sym (get_or_default items next item item here ∙ sym c.index-items-next.is)) ∙ point.1 next item (omega arith) here))
    ]
