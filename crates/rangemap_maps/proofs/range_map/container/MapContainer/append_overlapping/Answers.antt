use Rattle.rangemap_maps.proofs.range_map.container.MapContainer.append_overlapping.Goals as goal

pub returns-clause-of_nothing : goal.returns-clause-of_nothing
returns-clause-of_nothing g c = rw (← c.self.view_is) c.read_overlapping.ensures.2
