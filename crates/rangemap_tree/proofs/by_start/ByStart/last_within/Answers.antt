use Rattle.std.proofs.Common.{◌≡◌, [], ◌∷◌, ◌∙◌, filter, sym, ap, refl}
use Rattle.std.specs.Map.{values_of}
use Rattle.std.specs.BTreeMap.Range.{range_contains}
use Rattle.rangemap_tree.proofs.EntryLemmas.{made_filter, tied_in_range, values_append}
use Rattle.rangemap_tree.proofs.by_start.ByStart.last_within.Goals as goal

pub returns-in_err-range : goal.returns-in_err-range
returns-in_err-range g c =
    let o = g.met.K.Ord.total in
    let from = g.B.RangeBounds.start_bound c.args.starts in
    let to = g.B.RangeBounds.end_bound c.args.starts in
    let none : filter (λ p. range_contains g.K.Ord.cmp from to p.0.start) c.args.self.now ≡ [] =
    sym (made_filter o (λ x. range_contains g.K.Ord.cmp from to x) (tied_in_range o from to) c.self.inside.tree c.in-Some.tree c.in-Some.is c.self.invariant c.args.self.now c.self.view_is)
    ∙ ap values_of (sym (c.range.ensures.between c.requires.bounds) ∙ c.in_err-range.ensures.steps.0) in
    ([], rw c.from_residual.ensures (none, refl))

pub returns : goal.returns
returns g c =
    let o = g.met.K.Ord.total in
    let from = g.B.RangeBounds.start_bound c.args.starts in
    let to = g.B.RangeBounds.end_bound c.args.starts in (
      values_of c.next_back.new.self,
      sym (made_filter o (λ x. range_contains g.K.Ord.cmp from to x) (tied_in_range o from to) c.self.inside.tree c.in-Some.tree c.in-Some.is c.self.invariant c.args.self.now c.self.view_is)
          ∙ ap values_of (sym (c.range.ensures.between c.requires.bounds) ∙ c.in_ok-range.ensures.steps)
          ∙ values_append c.next_back.new.self ((c.in_ok-range.field-0-0.now, c.in_ok-range.field-0-1.now) ∷ []),
    )
