use Rattle.std.proofs.Common.{◌∙◌, ap, filter, sym}
use Rattle.std.specs.Map.{values_of}
use Rattle.std.specs.BTreeMap.Range.{range_contains}
use Rattle.std.specs.Range.Bound.{bound_map}
use Rattle.std.specs.declared.ops.Bound.TheVariants.{Excluded}
use Rattle.rangemap_tree.specs.Starts.{entries_in}
use Rattle.rangemap_tree.proofs.EntryLemmas.{made_filter, tied_in_range}
use Rattle.rangemap_tree.proofs.by_start.ByStart.between.Goals as goal
use Rattle.rangemap_tree.proofs.by_start.ByStart.between.Goals.{in-Some, in-None}

pub returns : goal.returns
returns g c =
    let o = g.met.K.Ord.total in
    let from = bound_map (λ y. y.now) c.args.from in
    let to = Excluded c.args.to.now in
    elim c.match-self.branch [
      | in-Some w ↦
          rw w.entries-is (ap values_of (w.range.ensures.between tt)
          ∙ made_filter o (λ x. range_contains g.K.Ord.cmp from to x) (tied_in_range o from to) c.self.inside.tree w.in-Some.tree w.in-Some.is c.self.invariant c.args.self.now c.self.view_is)
      | in-None w ↦
          rw w.entries-is (ap (filter (λ p. range_contains g.K.Ord.cmp from to p.0.start)) (ap (λ tree. values_of (entries_in tree)) (sym w.in-None.is) ∙ c.self.view_is))
    ]
