use Rattle.rangemap.proofs.SetNumberLemmas.{inserted_between}
use Rattle.examples.proofs.calling.add.Goals as goal

pub returns-clause-added : goal.returns-clause-added
returns-clause-added c = inserted_between c.insert.result _ _ _ c.insert.ensures.ok
