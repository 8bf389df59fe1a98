use Rattle.std.proofs.Common.{◌∙◌}
use Rattle.rangemap_core.specs.engine.EndpointKinds.{lt_is}
use Rattle.rangemap_core.specs.engine.Endpoints.{endpoint_of}
use Rattle.rangemap_core.proofs.EndpointLemmas.{part_spans}
use Rattle.rangemap_core.proofs.pairs.piece.Goals as goal

pub returns-clause-cut : goal.returns-clause-cut
returns-clause-cut g c =
    let part = rw c.in-Some.is at c.in_ok-range.ensures.ok in
    let cut = part_spans g.met.Q.Kind.placed (endpoint_of c.args.from) (endpoint_of c.args.to) c.in-Some.range c.requires.from c.requires.to part.0 part.1 in
    (lt_is _ part.0, cut.from, cut.to, g.met.V.Eq.laws.symm c.in_ok-clone.field-0 c.args.value.now ∙ c.requires.faithful_values _ _ c.in_ok-clone.ensures.cases)
