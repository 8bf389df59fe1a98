use Rattle.rangemap_maps.proofs.range_map.text.MapDebug.fmt.Goals as goal

pub returns : goal.returns
returns g c = record { writes = rw (← c.self.view_is) c.write.ensures }
