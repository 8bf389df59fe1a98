use Rattle.std.proofs.Common.{[], map, subst, sym}
use Rattle.rangemap_core.specs.Ranges.{AreGaps}
use Rattle.std.proofs.lemmas.Result.{on_ok_weaker}
use Rattle.rangemap.proofs.MapLemmas.{gaps_with_unit, pairs_are}
use Rattle.rangemap.proofs.range_set.container.SetContainer.append_gaps.Goals as goal

pub returns-clause-ok : goal.returns-clause-ok
returns-clause-ok g c = on_ok_weaker c.append_gaps.result (gaps_with_unit g.S.Kind.Kind.kind _ _ c.self.view_is c.args.outer_range.now _ _) c.append_gaps.ensures.ok

pub returns-clause-of_nothing : goal.returns-clause-of_nothing
returns-clause-of_nothing g c =
    let k = g.S.Kind.Kind.kind in
    λ none.
    c.append_gaps.ensures.of_nothing (subst (λ pairs. AreGaps k (map (λ pair. pair.0) pairs) c.args.outer_range.now []) (sym (pairs_are k _ _ c.self.view_is)) none)
