use Rattle.rangemap_containers.proofs.CoveredLemmas.{defined_where_covered}
use Rattle.rangemap_maps.proofs.range_map.Map.covers.Goals as goal

pub returns : goal.returns
returns g c = rw (← c.self.view_is) (defined_where_covered g.S.Kind.Kind.kind (g.S.Store.pairs c.self.inside.stored) c.args.range.now c.covers.result c.covers.ensures)
