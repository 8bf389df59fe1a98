use Rattle.rangemap_core.proofs.GapLemmas.{are_gaps}
use Rattle.rangemap_core.proofs.gaps.Gaps.over.Goals as goal

pub returns-clause-gaps : goal.returns-clause-gaps
returns-clause-gaps g c = λ eq list canonical asked met. rw met (are_gaps g.met.Q.Kind.placed eq c.args.outer_range.now asked list canonical)
