use Rattle.std.specs.Vec.Iter.{into_iter_items}
use Rattle.rangemap_core.proofs.IncomingLemmas.{listed}
use Rattle.rows_sets.proofs.own_steps.insert_all.Goals as goal

pub insert_pairs-requires-clause-non_empty : goal.insert_pairs-requires-clause-non_empty
insert_pairs-requires-clause-non_empty g c it h = listed g.S.Kind.Kind.kind into_iter_items h.3 it _ h.0 c.requires.non_empty
