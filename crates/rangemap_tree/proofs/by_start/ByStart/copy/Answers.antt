use Rattle.std.proofs.Common.{◌∙◌, List, [], sym, ap, subst}
use Rattle.std.specs.Map.{values_of}
use Rattle.std.specs.declared.ops.Range.{Range}
use Rattle.rangemap_tree.specs.Starts.{AreClones, AreKeyed, entries_in}
use Rattle.rangemap_tree.proofs.CloneLemmas.{cloned_keyed, cloned_values}
use Rattle.rangemap_tree.proofs.by_start.ByStart.copy.Goals as goal
use Rattle.rangemap_tree.proofs.by_start.ByStart.copy.Goals.{in-Some+in_ok-clone-in-Some, in-None}

pub invariant_of-result : goal.invariant_of-result
invariant_of-result g c = elim c.match-self.branch [
  | in-Some+in_ok-clone-in-Some w ↦
      rw w.tree-is (cloned_keyed g.K.Clone.is_clone g.V.Clone.is_clone g.met.K.Ord.total c.requires w.in-Some.tree.entries w.in_ok-clone-in-Some.field-0.entries w.in_ok-clone-in-Some.ensures.cases
      (subst (λ tree. AreKeyed g.K.Ord.cmp (entries_in tree)) w.in-Some.is c.self.invariant))
  | in-None w ↦ rw w.tree-is tt
]

pub returns : goal.returns
returns g c = elim c.match-self.branch [
  | in-Some+in_ok-clone-in-Some w ↦
      rw w.tree-is (subst (λ (ps : List (Range g.row.K.Denot × g.row.V.Denot)). AreClones g.K.Clone.is_clone g.V.Clone.is_clone ps (values_of w.in_ok-clone-in-Some.field-0.entries)) (ap (λ tree. values_of (entries_in tree)) (sym w.in-Some.is) ∙ c.self.view_is)
      (cloned_values g.K.Clone.is_clone g.V.Clone.is_clone w.in-Some.tree.entries w.in_ok-clone-in-Some.field-0.entries w.in_ok-clone-in-Some.ensures.cases))
  | in-None w ↦
      rw w.tree-is (subst (λ (ps : List (Range g.row.K.Denot × g.row.V.Denot)). AreClones g.K.Clone.is_clone g.V.Clone.is_clone ps []) (ap (λ tree. values_of (entries_in tree)) (sym w.in-None.is) ∙ c.self.view_is) tt)
]
