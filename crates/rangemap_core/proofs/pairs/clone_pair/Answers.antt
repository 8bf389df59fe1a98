use Rattle.std.proofs.Common.{◌∙◌, ap, is_lt}
use Rattle.rangemap_core.specs.laws.Orders.{eq_turn}
use Rattle.rangemap_core.specs.engine.Endpoints.{AtStart, AtEnd, asked}
use Rattle.rangemap_core.proofs.EqualListLemmas.{to_same}
use Rattle.rangemap_core.proofs.EndpointLemmas.{part_spans}
use Rattle.rangemap_core.proofs.pairs.clone_pair.Goals as goal

pub returns-clause-same : goal.returns-clause-same
returns-clause-same g c =
    let p = g.met.Q.Kind.placed in
    let pair : g.row.R.Denot × g.row.V.Denot = (c.args.range.now, c.args.value.now) in
    let stored = c.requires.stored in
    let cut = part_spans p (AtStart pair.0) (AtEnd pair.0) c.in_ok-copy.copy (asked g.Q.Kind.kind _ stored) (asked g.Q.Kind.kind _ stored) (ap is_lt (p.non_empty _ stored)) c.in_ok-copy.ensures.ok in
    to_same g.Q.Kind.kind g.V.PartialEq.eq pair (c.in_ok-copy.copy, c.in_ok-clone.field-0) (record {
      starts = eq_turn p.total cut.from;
      ends = eq_turn p.total (p.ends _ _ cut.storable stored ∙ cut.to);
      values = c.requires.faithful_values _ _ c.in_ok-clone.ensures.cases;
    })
