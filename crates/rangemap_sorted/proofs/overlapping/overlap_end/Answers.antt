use Rattle.std.proofs.Common.{arith, ◌≡◌, ◌∙◌, ◌+◌, ◌-◌, ◌<◌, get_or, length, sym, false, true, inl, inr}
use Rattle.std.proofs.lemmas.Bool.{cases_lt}
use Rattle.std.proofs.lemmas.List.{get_or_default}
use Rattle.rangemap_core.specs.engine.Stretch.{starts_within}
use Rattle.rangemap_core.proofs.PartitionLemmas.{fails_from, one_look}
use Rattle.rangemap_core.proofs.PlaceLemmas.{S, places, to_spaced}
use Rattle.rangemap_core.proofs.RestLemmas.{starts_parted}
use Rattle.rangemap_sorted.proofs.OverlapLemmas.{begun_but_the_last, begun_is_near, not_begun_behind}
use Rattle.rangemap_sorted.proofs.overlapping.overlap_end.Goals.{After-starts_up_to-last}
use Rattle.rangemap_sorted.proofs.overlapping.overlap_end.Goals as goal

-- the pair that was looked at starts before the query ends, so it is found
looked_at : (g : _) (c : After-starts_up_to-last g) → c.args.start + 4 < c.starts_up_to-last.result
looked_at g c =
    begun_is_near g.met.Q.Kind.placed g.V.PartialEq.eq c.args.query.now c.known_ends.ensures c.args.pairs.now c.starts_up_to-last.result c.requires.canonical (rw (← (c.end.ensures ∙ g.met.Q.Kind.reads.end c.args.query.now)) c.starts_up_to-last.ensures.point)
    (c.args.start + 4) c.index-pairs-start.result (omega arith) (sym c.is_before.ensures ∙ c.if-is_before.true)

pub overflow_sub-last : goal.overflow_sub-last
overflow_sub-last g c = let found = looked_at g (goal.at.overflow_sub-last g c).After-starts_up_to-last in omega arith

pub returns-then-is_before : goal.returns-then-is_before
returns-then-is_before g c =
    let p = g.met.Q.Kind.placed in
    let eq = g.V.PartialEq.eq in
    let near = c.starts_up_to-last in
    let more : c.args.start + 4 < near.result = looked_at g (goal.at.returns-then-is_before g c).After-starts_up_to-last in
    let last = get_or c.args.pairs.now (near.result - 1) c.index-pairs-last.result in
    let found = one_look (starts_within (S p eq) c.args.query.now) c.args.pairs.now near.result last (omega arith) near.ensures.bound (get_or_default c.args.pairs.now (near.result - 1) c.index-pairs-last.result last (omega (arith, near.ensures.bound)))
    (begun_but_the_last p eq c.args.query.now c.known_ends.ensures c.args.pairs.now near.result c.requires.canonical near.ensures.bound (rw (← (c.end.ensures ∙ g.met.Q.Kind.reads.end c.args.query.now)) near.ensures.point))
    (not_begun_behind p eq c.args.query.now c.known_ends.ensures c.args.pairs.now near.result c.requires.canonical (rw (← (c.end.ensures ∙ g.met.Q.Kind.reads.end c.args.query.now)) near.ensures.point))
    (near.result - 1 + c.from.result)
    (λ h. let yes : c.is_before-begins.result ≡ true = c.is_before-begins.ensures ∙ h in let one : c.from.result ≡ 1 = rw yes at c.from.ensures in omega arith)
    (λ h. let no : c.is_before-begins.result ≡ false = c.is_before-begins.ensures ∙ h in let one : c.from.result ≡ 0 = rw no at c.from.ensures in omega arith) in
    record {
      start_le_end = omega arith;
      in_bounds = omega (arith, found.0, c.requires.in_bounds);
      begun = λ i d l m. found.1.0 i d (omega arith) (omega (arith, l, m));
      later = λ i d l m. found.1.1 i d (omega (arith, l)) m;
    }

pub on-preserved : goal.on-preserved
on-preserved g c =
    let xs = c.args.pairs.now in
    let at = c.on.at in
    let here : at < length xs = omega arith in
    let yes : c.is_before-in-on.result ≡ true = c.if-is_before-2.true in
    record {
      from = omega (arith, c.on.invariant.from);
      bound = omega arith;
      begun = λ i d l m. elim (cases_lt i at) [
        | inl before ↦ c.on.invariant.begun i d l before
        | inr last ↦
            let is : i ≡ at = omega arith in
            rw (is, get_or_default xs at d c.index-pairs-at.result here) (sym c.is_before-in-on.ensures ∙ yes)
      ];
    }

pub returns-else-is_before-2 : goal.returns-else-is_before-2
returns-else-is_before-2 g c =
    let p = g.met.Q.Kind.placed in
    let eq = g.V.PartialEq.eq in
    let xs = c.args.pairs.now in
    let at = c.on.at in
    let here : at < length xs = omega arith in
    let a = get_or xs at c.index-pairs-at.result in
    record {
      start_le_end = c.on.invariant.from;
      in_bounds = c.on.invariant.bound;
      begun = c.on.invariant.begun;
      later = fails_from (starts_within (S p eq) c.args.query.now) xs (starts_parted (S p eq) (places p eq) xs (to_spaced p eq _ c.requires.canonical) c.args.query.now)
          at a here (λ d. get_or_default xs at d c.index-pairs-at.result here) (sym c.is_before-in-on.ensures ∙ c.if-is_before-2.false) at (omega arith);
    }

pub returns-after-on : goal.returns-after-on
returns-after-on g c = record {
  start_le_end = c.on.invariant.from;
  in_bounds = c.on.invariant.bound;
  begun = c.on.invariant.begun;
  later = λ i d l m. absurd (omega (arith, l, m));
}
