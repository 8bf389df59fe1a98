use Rattle.std.proofs.Common.{◌∙◌, ap, sym}
use Rattle.std.specs.Map.{values_of}
use Rattle.rangemap_tree.specs.Starts.{entries_in}
use Rattle.rangemap_tree.proofs.FilterLemmas.{filter_all}
use Rattle.rangemap_tree.proofs.by_start.ByStart.iter.Goals as goal
use Rattle.rangemap_tree.proofs.by_start.ByStart.iter.Goals.{in-Some, in-None}

pub returns : goal.returns
returns g c = elim c.match-self.branch [
  | in-Some w ↦
      rw w.entries-is (ap values_of (w.range.ensures.between tt ∙ filter_all w.in-Some.tree.entries)
      ∙ ap (λ tree. values_of (entries_in tree)) (sym w.in-Some.is)
      ∙ c.self.view_is)
  | in-None w ↦ rw w.entries-is (ap (λ tree. values_of (entries_in tree)) (sym w.in-None.is) ∙ c.self.view_is)
]
