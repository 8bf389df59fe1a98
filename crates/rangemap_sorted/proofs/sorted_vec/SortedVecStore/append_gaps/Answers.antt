use Rattle.std.proofs.Common.{◌∙◌, map, subst}
use Rattle.std.proofs.lemmas.Result.{on_ok_weaker}
use Rattle.rangemap_core.specs.Ranges.{IsCanonical}
use Rattle.rangemap_core.proofs.AppendLemmas.{gaps_appended, no_gaps}
use Rattle.rangemap_core.proofs.GapLemmas.{are_gaps}
use Rattle.rangemap_sorted.proofs.sorted_vec.SortedVecStore.append_gaps.Goals as goal

pub returns-clause-ok : goal.returns-clause-ok
returns-clause-ok g c =
    let q = c.args.outer_range.now in
    let canonical : IsCanonical g.Q.Kind.kind g.V.PartialEq.eq c.args.self.now.0 = subst (IsCanonical g.Q.Kind.kind g.V.PartialEq.eq) (λ i. (c.self.view_is i).0) c.self.invariant in
    let gaps = are_gaps g.met.Q.Kind.placed g.V.PartialEq.eq q c.known_ends.ensures c.args.self.now.0 canonical in
    on_ok_weaker c.append_gaps.result (λ all. gaps_appended g.met.Q.Kind.placed _ c.args.self.now.0 q _ c.args.out.now.items c.append_gaps.new.out.items (rw (c.new-pairs.ensures, c.deref.ensures.value ∙ (λ i. (c.self.view_is i).0)) gaps) all) c.append_gaps.ensures.ok

pub returns-clause-of_nothing : goal.returns-clause-of_nothing
returns-clause-of_nothing g c =
    let q = c.args.outer_range.now in
    let canonical : IsCanonical g.Q.Kind.kind g.V.PartialEq.eq c.args.self.now.0 = subst (IsCanonical g.Q.Kind.kind g.V.PartialEq.eq) (λ i. (c.self.view_is i).0) c.self.invariant in
    let gaps = are_gaps g.met.Q.Kind.placed g.V.PartialEq.eq q c.known_ends.ensures c.args.self.now.0 canonical in
    λ none.
    c.append_gaps.ensures.of_nothing (no_gaps g.met.Q.Kind.placed (map (λ pair. pair.0) c.args.self.now.0) q _ (rw (c.new-pairs.ensures, c.deref.ensures.value ∙ (λ i. (c.self.view_is i).0)) gaps) none)
