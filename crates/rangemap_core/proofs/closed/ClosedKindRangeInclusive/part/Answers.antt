use Rattle.std.proofs.Common.{◌≡◌, ◌∙◌, ap, rules, subst, sym}
use Rattle.std.specs.declared.cmp.Ordering.TheVariants.{Equal}
use Rattle.rangemap_core.specs.engine.ClosedEndpoints.{closed_first, closed_last}
use Rattle.rangemap_core.specs.engine.Endpoints.{endpoint_of}
use Rattle.rangemap_core.proofs.ClosedEndpointLemmas.{same_part}
use Rattle.rangemap_core.proofs.closed.ClosedKindRangeInclusive.part.Goals as goal
use Rattle.rangemap_core.proofs.closed.ClosedKindRangeInclusive.part.Goals.{in-Start+in_ok-start-in-Start, in-End, in-Start-to, in-End-to+in_ok-end-in-End-to}

pub returns-clause-ok : goal.returns-clause-ok
returns-clause-ok g c =
    let k = g.StepFnsT.StepFns in
    let s = g.met.StepFnsT.StepFns in
    let cmp = g.K.Ord.cmp in
    let first : cmp (closed_first k.after (endpoint_of c.args.from)) c.match-from.start ≡ Equal = elim c.match-from.branch [
      | in-Start+in_ok-start-in-Start w ↦ search rules
      | in-End w ↦ search rules
    ] in
    let last : cmp (closed_last k.before (endpoint_of c.args.to)) c.match-to.end ≡ Equal = elim c.match-to.branch [
      | in-Start-to w ↦ search rules
      | in-End-to+in_ok-end-in-End-to w ↦ search rules
    ] in
    same_part k.is_key cmp g.met.K.Ord.total k.after k.before s.follows s.precedes _ _ c.new.result c.known_at.ensures c.known_at-2.ensures c.requires.is_before
    (ap (cmp _) c.new.ensures.start ∙ first) (ap (cmp _) c.new.ensures.end ∙ last)
    (subst k.is_key (sym c.new.ensures.start) c.known.ensures) (subst k.is_key (sym c.new.ensures.end) c.known-2.ensures) c.new.ensures.exhausted
