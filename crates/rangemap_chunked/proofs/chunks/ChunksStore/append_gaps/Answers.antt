use Rattle.std.proofs.Common.{◌∙◌, ap, map, subst, List}
use Rattle.std.proofs.lemmas.Result.{on_ok_weaker}
use Rattle.rangemap_core.specs.Ranges.{IsCanonical}
use Rattle.rangemap_core.proofs.AppendLemmas.{gaps_appended, no_gaps}
use Rattle.rangemap_core.proofs.GapLemmas.{are_gaps}
use Rattle.rangemap_chunked.specs.Chunks.{whole}
use Rattle.rangemap_chunked.proofs.chunks.ChunksStore.append_gaps.Goals as goal

pub returns-clause-ok : goal.returns-clause-ok
returns-clause-ok g c =
    let q = c.args.outer_range.now in
    let canonical : IsCanonical g.Q.Kind.kind g.V.PartialEq.eq c.args.self.now = subst (IsCanonical g.Q.Kind.kind g.V.PartialEq.eq) c.self.view_is c.self.invariant.0.canonical in
    let gaps = are_gaps g.met.Q.Kind.placed g.V.PartialEq.eq q c.known_ends.ensures c.args.self.now canonical in
    on_ok_weaker c.append_gaps.result (λ all. gaps_appended g.met.Q.Kind.placed _ c.args.self.now q _ c.args.out.now.items c.append_gaps.new.out.items (rw (c.overlapping-pairs.ensures, ap (λ (ps : List (List (g.row.R.Denot × g.row.V.Denot))). whole ps) c.deref.ensures.value ∙ c.self.view_is) gaps) all) c.append_gaps.ensures.ok

pub returns-clause-of_nothing : goal.returns-clause-of_nothing
returns-clause-of_nothing g c =
    let q = c.args.outer_range.now in
    let canonical : IsCanonical g.Q.Kind.kind g.V.PartialEq.eq c.args.self.now = subst (IsCanonical g.Q.Kind.kind g.V.PartialEq.eq) c.self.view_is c.self.invariant.0.canonical in
    let gaps = are_gaps g.met.Q.Kind.placed g.V.PartialEq.eq q c.known_ends.ensures c.args.self.now canonical in
    λ none.
    c.append_gaps.ensures.of_nothing (no_gaps g.met.Q.Kind.placed (map (λ pair. pair.0) c.args.self.now) q _ (rw (c.overlapping-pairs.ensures, ap (λ (ps : List (List (g.row.R.Denot × g.row.V.Denot))). whole ps) c.deref.ensures.value ∙ c.self.view_is) gaps) none)
