use Rattle.std.proofs.Common.{◌≡◌, ◌∷◌, ◌++◌, ◌∙◌, List, [], Some, None, rules, sym, ap, subst}
use Rattle.std.specs.Cmp.{tied_itself}
use Rattle.std.specs.Map.{values_of}
use Rattle.rangemap_tree.specs.Starts.{AreKeyed, entries_in}
use Rattle.rangemap_tree.proofs.EntryLemmas.{lookup_is, set_is, set_keyed}
use Rattle.rangemap_tree.proofs.by_start.ByStart.recut.Goals as goal
use Rattle.rangemap_tree.proofs.by_start.ByStart.recut.Goals.{in-Some-tree+in-Some-get_mut, in-Some-tree+in_default-get_mut, in_default-tree}

no_middle : {X : Type 0} (us ws : List X) (a : X) → [] ≡ us ++ a ∷ ws → ⊥
no_middle [] ws a e = cc
no_middle (u ∷ us) ws a e = cc

pub invariant_of-self : goal.invariant_of-self
invariant_of-self g c =
    let o = g.met.K.Ord.total in
    let cmp = g.K.Ord.cmp in
    let range = c.in-Some.range in
    elim c.match-self.branch [
      | in-Some-tree+in-Some-get_mut w ↦
          let es = w.in-Some-tree.tree.entries in
          let keyed : AreKeyed cmp es = subst (λ tree. AreKeyed cmp (entries_in tree)) w.in-Some-tree.is c.self.invariant in
          rw w.self-inside-is (subst (AreKeyed cmp) (sym (w.get_mut.follows.holds (range, w.in-Some-get_mut.pair.now.1)).0) (set_keyed o range.start (range, w.in-Some-get_mut.pair.now.1) es (tied_itself o range.start) keyed))
      | in-Some-tree+in_default-get_mut w ↦
          let keyed : AreKeyed cmp w.in-Some-tree.tree.entries = subst (λ tree. AreKeyed cmp (entries_in tree)) w.in-Some-tree.is c.self.invariant in
          rw w.self-inside-is (search (rules, keyed))
      | in_default-tree w ↦ rw w.self-inside-is c.self.invariant
    ]

pub returns : goal.returns
returns g c =
    let o = g.met.K.Ord.total in
    let cmp = g.K.Ord.cmp in
    let range = c.in-Some.range in
    rw c.in-Some.is (elim c.match-self.branch [
      | in-Some-tree+in-Some-get_mut w ↦ λ us ws a is tie.
          let es = w.in-Some-tree.tree.entries in
          let keyed : AreKeyed cmp es = subst (λ tree. AreKeyed cmp (entries_in tree)) w.in-Some-tree.is c.self.invariant in
          let whole : values_of es ≡ us ++ a ∷ ws = ap (λ tree. values_of (entries_in tree)) (sym w.in-Some-tree.is) ∙ c.self.view_is ∙ is in
          let found : Some w.in-Some-get_mut.pair.now ≡ Some a = w.in-Some-get_mut.ensures.value ∙ lookup_is o range.start es keyed w.get_mut.ensures.ordered us ws a whole tie in
          let same : w.in-Some-get_mut.pair.now ≡ a = cc in
          rw w.self-inside-is (ap values_of (w.get_mut.follows.holds (range, w.in-Some-get_mut.pair.now.1)).0
          ∙ set_is o range.start (range, w.in-Some-get_mut.pair.now.1) es keyed w.get_mut.ensures.ordered us ws a whole tie
          ∙ ap (λ (p : _). us ++ (range, p.1) ∷ ws) same)
      | in-Some-tree+in_default-get_mut w ↦ λ us ws a is tie.
          let es = w.in-Some-tree.tree.entries in
          let keyed : AreKeyed cmp es = subst (λ tree. AreKeyed cmp (entries_in tree)) w.in-Some-tree.is c.self.invariant in
          let whole : values_of es ≡ us ++ a ∷ ws = ap (λ tree. values_of (entries_in tree)) (sym w.in-Some-tree.is) ∙ c.self.view_is ∙ is in
          let found : None ≡ Some a = w.in_default-get_mut.ensures.value ∙ lookup_is o range.start es keyed w.get_mut.ensures.ordered us ws a whole tie in
          absurd cc
      | in_default-tree w ↦ λ us ws a e h. absurd (no_middle us ws a (search rules))
    ])
