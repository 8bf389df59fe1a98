use Rattle.std.proofs.Common.{◌≡◌, [], Some, ◌∙◌, sym, ap, subst}
use Rattle.std.specs.Map.{values_of, remove_entry}
use Rattle.std.specs.BTreeMap.{is_at, IsOrdered}
use Rattle.rangemap_tree.specs.Starts.{AreKeyed, entries_in, without}
use Rattle.rangemap_tree.proofs.EntryLemmas.{take_is, take_keyed}
use Rattle.rangemap_tree.proofs.by_start.ByStart.take.Goals as goal
use Rattle.rangemap_tree.proofs.by_start.ByStart.take.Goals.{in-Some+in-Some-1, in-Some+in-None-1, in_default}

pub invariant_of-self : goal.invariant_of-self
invariant_of-self g c =
    let keyed : (tree : _) → c.self.inside.tree ≡ Some tree → AreKeyed g.K.Ord.cmp (remove_entry (is_at (g.K.Ord.cmp c.args.key.now)) tree.entries) = λ tree is. take_keyed g.met.K.Ord.total c.args.key.now tree.entries (subst (λ tree. AreKeyed g.K.Ord.cmp (entries_in tree)) is c.self.invariant) in
    elim c.match-self.branch [
      | in-Some+in-Some-1 w ↦ rw w.self-inside-is (subst (AreKeyed g.K.Ord.cmp) (sym w.remove.ensures.entries) (keyed w.in-Some.tree w.in-Some.is))
      | in-Some+in-None-1 w ↦ rw w.self-inside-is (subst (AreKeyed g.K.Ord.cmp) (sym w.remove.ensures.entries) (keyed w.in-Some.tree w.in-Some.is))
      | in_default w ↦ rw w.self-inside-is c.self.invariant
    ]

pub returns : goal.returns
returns g c =
    let cmp = g.K.Ord.cmp in
    let key = c.args.key.now in
    let taken : (tree : _) → c.self.inside.tree ≡ Some tree → IsOrdered cmp tree → values_of (remove_entry (is_at (cmp key)) tree.entries) ≡ without cmp key c.args.self.now = λ tree is ordered. take_is g.met.K.Ord.total key tree.entries (subst (λ tree. AreKeyed cmp (entries_in tree)) is c.self.invariant) ordered ∙ ap (without cmp key) (ap (λ tree. values_of (entries_in tree)) (sym is) ∙ c.self.view_is) in
    elim c.match-self.branch [
      | in-Some+in-Some-1 w ↦ rw w.self-inside-is (ap values_of w.remove.ensures.entries ∙ taken w.in-Some.tree w.in-Some.is w.len.ensures.ordered)
      | in-Some+in-None-1 w ↦ rw w.self-inside-is (ap values_of w.remove.ensures.entries ∙ taken w.in-Some.tree w.in-Some.is w.len.ensures.ordered)
      | in_default w ↦
          let none : [] ≡ c.args.self.now = ap (λ tree. values_of (entries_in tree)) (sym w.in_default.is) ∙ c.self.view_is in
          rw w.self-inside-is (c.self.view_is ∙ sym none ∙ ap (without cmp key) none)
    ]
