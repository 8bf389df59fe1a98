use Rattle.std.proofs.Common.{◌∙◌, ap, nat_eq}
use Rattle.rangemap_laws.proofs.OverlapLemmas.{no_gap_where_covered}
use Rattle.rangemap_laws.proofs.overlaps.covers_exactly_where_no_gap_lies.Goals as goal

pub returns-clause-no_gap : goal.returns-clause-no_gap
returns-clause-no_gap g c = no_gap_where_covered g.met.M.Kind.Kind.placed (g.M.Container.pairs c.args.map.now) c.args.range.now _ c.in_ok-gaps.ensures.ok c.covers-covers.result _ c.covers-covers.ensures (c.is_empty.ensures ∙ ap (λ n. nat_eq n 0) c.in_ok-gaps.gaps.ok.0)
