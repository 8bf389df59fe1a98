use Rattle.rangemap.proofs.SetNumberLemmas.{inserted_between}
use Rattle.examples.proofs.calling.note.Goals as goal

pub returns-clause-noted : goal.returns-clause-noted
returns-clause-noted c = inserted_between c.insert.result _ _ _ c.insert.ensures.ok
