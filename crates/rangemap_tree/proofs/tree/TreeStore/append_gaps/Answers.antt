use Rattle.std.proofs.Common.{map, subst}
use Rattle.std.proofs.lemmas.Result.{on_ok_weaker}
use Rattle.rangemap_core.specs.Ranges.{IsCanonical, half_open}
use Rattle.rangemap_core.specs.engine.EndpointKinds.{half_open_placed}
use Rattle.rangemap_core.proofs.AppendLemmas.{gaps_appended, no_gaps}
use Rattle.rangemap_core.proofs.GapLemmas.{are_gaps}
use Rattle.rangemap_tree.proofs.tree.TreeStore.append_gaps.Goals as goal

pub returns : goal.returns
returns g c =
    let q = c.args.outer_range.now in
    let placed = half_open_placed g.met.K.Ord.total in
    let canonical : IsCanonical (half_open g.K.Ord.cmp) g.V.PartialEq.eq c.args.self.now = subst (IsCanonical (half_open g.K.Ord.cmp) g.V.PartialEq.eq) c.self.view_is c.self.invariant in
    let gaps = are_gaps placed g.V.PartialEq.eq q (record { start_is_key = tt; end_is_key = tt }) c.args.self.now canonical in
    record {
      ok = on_ok_weaker c.append_gaps.result (λ all. gaps_appended placed _ c.args.self.now q _ c.args.out.now.items c.append_gaps.new.out.items (rw (c.overlapping_pairs-pairs.ensures, c.self.view_is) gaps) all) c.append_gaps.ensures.ok;
      err = c.append_gaps.ensures.err;
      of_nothing = λ none. c.append_gaps.ensures.of_nothing (no_gaps placed (map (λ pair. pair.0) c.args.self.now) q _ (rw (c.overlapping_pairs-pairs.ensures, c.self.view_is) gaps) none);
    }
