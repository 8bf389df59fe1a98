use Rattle.std.proofs.Common.{◌∙◌, ap, is_le, is_lt}
use Rattle.rangemap_core.specs.engine.Endpoints.{endpoint_of}
use Rattle.rangemap_core.proofs.ClosedEndpointLemmas.{end_to_end, end_to_start, start_to_end}
use Rattle.rangemap_core.proofs.closed.ClosedKindRangeInclusive.is_before.Goals as goal

pub returns-in-Start-End : goal.returns-in-Start-End
returns-in-Start-End g c =
    let k = g.StepFnsT.StepFns in
    let s = g.met.StepFnsT.StepFns in
    c.is_le.ensures ∙ ap is_le c.cmp-in-Start-End.ensures
    ∙ start_to_end k.is_key g.K.Ord.cmp g.met.K.Ord.total k.after k.before s.follows s.precedes (endpoint_of c.args.from) (endpoint_of c.args.to) c.in-Start-End.from.now c.in-Start-End.to.now _ _
    (ap endpoint_of c.in-Start-End.is-0) (ap endpoint_of c.in-Start-End.is-1) c.known_at.ensures c.known_at-2.ensures c.start-in-Start-End.ensures c.end.ensures

pub returns-in-End-End : goal.returns-in-End-End
returns-in-End-End g c =
    let k = g.StepFnsT.StepFns in
    let s = g.met.StepFnsT.StepFns in
    c.is_lt-in-End-End.ensures ∙ ap is_lt c.cmp-in-End-End.ensures
    ∙ end_to_end k.is_key g.K.Ord.cmp g.met.K.Ord.total k.after k.before s.follows s.precedes (endpoint_of c.args.from) (endpoint_of c.args.to) c.in-End-End.from.now c.in-End-End.to.now _ _
    (ap endpoint_of c.in-End-End.is-0) (ap endpoint_of c.in-End-End.is-1) c.known_at.ensures c.known_at-2.ensures c.end-in-End-End.ensures c.end-in-End-End-2.ensures

pub returns-in-Apart : goal.returns-in-Apart
returns-in-Apart g c =
    let k = g.StepFnsT.StepFns in
    let s = g.met.StepFnsT.StepFns in
    (end_to_start k.is_key g.K.Ord.cmp g.met.K.Ord.total k.after k.before s.follows s.precedes (endpoint_of c.args.from) (endpoint_of c.args.to) c.in-End-Start.from.now c.in-End-Start.to.now c.touch_test.result
    (ap endpoint_of c.in-End-Start.is-0) (ap endpoint_of c.in-End-Start.is-1) c.known_at.ensures c.known_at-2.ensures c.touch_test.ensures).0 c.in-Apart.is

pub returns-in_default : goal.returns-in_default
returns-in_default g c =
    let k = g.StepFnsT.StepFns in
    let s = g.met.StepFnsT.StepFns in
    (end_to_start k.is_key g.K.Ord.cmp g.met.K.Ord.total k.after k.before s.follows s.precedes (endpoint_of c.args.from) (endpoint_of c.args.to) c.in-End-Start.from.now c.in-End-Start.to.now c.touch_test.result
    (ap endpoint_of c.in-End-Start.is-0) (ap endpoint_of c.in-End-Start.is-1) c.known_at.ensures c.known_at-2.ensures c.touch_test.ensures).1 c.in_default.not-Apart
