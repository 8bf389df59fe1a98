use Rattle.rangemap_maps.proofs.FoundLemmas.{found_non_empty}
use Rattle.rangemap_maps.proofs.range_map.with_room.MapWithRoom.last_range_value.Goals as goal

pub returns-clause-non_empty : goal.returns-clause-non_empty
returns-clause-non_empty g c = found_non_empty g.S.Kind.Kind.kind g.S.Value.PartialEq.eq (g.S.Store.pairs c.self.inside.stored) c.known.ensures _ c.last.result c.last.ensures
