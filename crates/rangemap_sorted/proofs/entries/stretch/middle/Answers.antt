use Rattle.std.proofs.Common.{arith, ap, sym, ◌∙◌, ◌-◌, ◌≡◌}
use Rattle.rangemap_core.specs.engine.Stretch.{taken_or_new}
use Rattle.rangemap_core.specs.engine.Endpoints.{AtStart, AtEnd, asked}
use Rattle.rangemap_core.proofs.StoredLemmas.{all_storable}
use Rattle.rangemap_core.proofs.EndpointLemmas.{answered_spans, has_middle, new_is, taken_is, taken_storable}
use Rattle.rangemap_sorted.proofs.entries.stretch.middle.Goals as goal
use Rattle.rangemap_sorted.proofs.entries.stretch.middle.Goals.{Joined-right, then-left, else-left, then-right, else-right}

-- the two ranges between whose ends the middle lies
between : (g : _) (c : Joined-right g)
    → (taken_or_new c.args.pairs.now c.args.places.now.start c.args.left.now.is_taken c.args.range ≡ c.if-left.first.now)
    × (taken_or_new c.args.pairs.now (c.args.places.now.end - 1) c.args.right.now.is_taken c.args.range ≡ c.if-right.last.now)
between g c =
    let xs = c.args.pairs.now in
    let r = c.args.range in
    let taken = c.requires.taken in (
      elim (c.if-left.branch) [
        | then-left w ↦ taken_is xs c.args.places.now.start r c.args.left.now.is_taken w.index-pairs-places.result c.if-left.first.now w.if-left.true w.index-pairs-places.is (omega (arith, taken.first_in_stretch w.if-left.true, taken.in_bounds)) (ap (λ b. b.now) w.first-is ∙ ap (λ (q : g.row.R.Denot × g.row.V.Denot). q.0) (sym w.index-pairs-places.is))
        | else-left w ↦ new_is xs c.args.places.now.start r c.args.left.now.is_taken c.if-left.first.now w.if-left.false (ap (λ b. b.now) w.first-is)
      ],
      elim (c.if-right.branch) [
        | then-right w ↦ taken_is xs (c.args.places.now.end - 1) r c.args.right.now.is_taken w.index-pairs-places-then-right.result c.if-right.last.now w.if-right.true w.index-pairs-places-then-right.is (omega (arith, taken.last_in_stretch w.if-right.true, taken.in_bounds)) (ap (λ b. b.now) w.last-is ∙ ap (λ (q : g.row.R.Denot × g.row.V.Denot). q.0) (sym w.index-pairs-places-then-right.is))
        | else-right w ↦ new_is xs (c.args.places.now.end - 1) r c.args.right.now.is_taken c.if-right.last.now w.if-right.false (ap (λ b. b.now) w.last-is)
      ],
    )

pub part-requires-clause-is_before : goal.part-requires-clause-is_before
part-requires-clause-is_before g c =
    let ends = between g (goal.at.part-requires-clause-is_before g c).Joined-right in
    rw (← ends.0, ← ends.1) (has_middle g.met.Q.Kind.placed g.V.PartialEq.eq c.args.pairs.now c.args.range c.args.places.now.start c.args.places.now.end c.args.left.now.is_taken c.args.right.now.is_taken c.requires.taken c.requires.range)

pub returns-clause-ok : goal.returns-clause-ok
returns-clause-ok g c =
    let k = g.Q.Kind.kind in
    let p = g.met.Q.Kind.placed in
    let eq = g.V.PartialEq.eq in
    let xs = c.args.pairs.now in
    let r = c.args.range in
    let all = all_storable _ eq xs (c.requires.canonical) in
    let taken = c.requires.taken in
    let ends = between g (goal.at.returns-clause-ok g c).Joined-right in
    answered_spans p (AtStart (taken_or_new xs c.args.places.now.start c.args.left.now.is_taken r)) (AtEnd (taken_or_new xs (c.args.places.now.end - 1) c.args.right.now.is_taken r)) c.part.result
    (asked k _ (taken_storable xs c.args.places.now.start r all c.requires.range c.args.left.now.is_taken (λ h. omega (arith, taken.first_in_stretch h, taken.in_bounds))))
    (asked k _ (taken_storable xs (c.args.places.now.end - 1) r all c.requires.range c.args.right.now.is_taken (λ h. omega (arith, taken.last_in_stretch h, taken.in_bounds))))
    (has_middle p eq xs r c.args.places.now.start c.args.places.now.end c.args.left.now.is_taken c.args.right.now.is_taken taken c.requires.range)
    (rw (ends.0, ends.1) c.part.ensures.ok)
