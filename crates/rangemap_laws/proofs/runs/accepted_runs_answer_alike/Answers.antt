use Rattle.rangemap_core.specs.Ranges.{half_open}
use Rattle.rangemap_core.specs.engine.EndpointKinds.{half_open_placed}
use Rattle.rangemap_laws.proofs.RunLemmas.{run_alike}
use Rattle.rangemap_laws.proofs.runs.accepted_runs_answer_alike.Goals as goal

pub returns : goal.returns
returns g c = λ one other one_after other_after commands answers replies. run_alike (half_open g.K.Ord.cmp) (half_open_placed g.met.K.Ord.total) g.met.V.Eq.laws (λ x. tt) commands one other one_after other_after answers replies
