use Rattle.std.proofs.Common.{arith, ◌≡◌, ◌∙◌, ◌-◌, get_or, false, true}
use Rattle.std.proofs.lemmas.List.{get_or_default}
use Rattle.rangemap_core.specs.engine.Endpoints.{AtEnd, AtStart, is_before}
use Rattle.rangemap_core.specs.engine.Stretch.{ends_by}
use Rattle.rangemap_sorted.proofs.OverlapLemmas.{ended_but_the_last, not_ended_behind, of_not, of_not_false}
use Rattle.rangemap_core.proofs.PartitionLemmas.{one_look}
use Rattle.rangemap_core.proofs.PlaceLemmas.{S}
use Rattle.rangemap_sorted.proofs.overlapping.overlap_start.Goals as goal

pub returns-then-near-eq0-clause-point : goal.returns-then-near-eq0-clause-point
returns-then-near-eq0-clause-point g c =
    let near = c.starts_up_to-near in
    let behind = not_ended_behind g.met.Q.Kind.placed g.V.PartialEq.eq c.args.query.now c.args.pairs.now near.result c.requires (rw (← (c.start.ensures ∙ g.met.Q.Kind.reads.start c.args.query.now)) near.ensures.point) in
    (λ i d _ u. absurd (omega arith), λ i d v u. behind i d (omega (arith, c.if-near-eq0.true)) u)

pub returns-clause-point : goal.returns-clause-point
returns-clause-point g c =
    let p = g.met.Q.Kind.placed in
    let eq = g.V.PartialEq.eq in
    let near = c.starts_up_to-near in
    let test = ends_by (S p eq) c.args.query.now in
    let last = get_or c.args.pairs.now (near.result - 1) c.index-pairs-near.result in
    let found = one_look test c.args.pairs.now near.result last (omega arith) near.ensures.bound (get_or_default c.args.pairs.now (near.result - 1) c.index-pairs-near.result last (omega (arith, near.ensures.bound)))
    (ended_but_the_last p eq c.args.query.now c.args.pairs.now near.result c.requires near.ensures.bound (rw (← (c.start.ensures ∙ g.met.Q.Kind.reads.start c.args.query.now)) near.ensures.point))
    (not_ended_behind p eq c.args.query.now c.args.pairs.now near.result c.requires (rw (← (c.start.ensures ∙ g.met.Q.Kind.reads.start c.args.query.now)) near.ensures.point))
    _
    (λ h. let no : c.is_before-reaches.result ≡ false = c.is_before-reaches.ensures ∙ of_not (is_before g.Q.Kind.kind g.Q.Kind.end_place (AtStart c.args.query.now) (AtEnd last.0)) h in let one : c.from.result ≡ 0 = rw no at c.from.ensures in omega arith)
    (λ h. let yes : c.is_before-reaches.result ≡ true = c.is_before-reaches.ensures ∙ of_not_false (is_before g.Q.Kind.kind g.Q.Kind.end_place (AtStart c.args.query.now) (AtEnd last.0)) h in let one : c.from.result ≡ 1 = rw yes at c.from.ensures in omega arith) in
    found.1
