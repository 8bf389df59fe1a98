use Rattle.std.specs.Vec.Iter.{into_iter_items}
use Rattle.rangemap_core.proofs.IncomingLemmas.{listed}
use Rattle.rows_maps.proofs.own_steps.extend_by.Goals as goal

pub extend-requires-clause-non_empty : goal.extend-requires-clause-non_empty
extend-requires-clause-non_empty g c it h = listed g.S.Kind.Kind.kind into_iter_items h.3 it _ h.0 c.requires.non_empty
