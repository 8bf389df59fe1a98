use Rattle.rangemap_core.specs.Ranges.{with_unit}
use Rattle.rangemap_containers.proofs.CoveredLemmas.{defined_where_covered}
use Rattle.rangemap_unions.proofs.UnitValueLemmas.{ranges_with}
use Rattle.rangemap.proofs.range_set.container.SetContainer.covers.Goals as goal

pub returns : goal.returns
returns g c =
    let k = g.S.Kind.Kind.kind in
    let list = c.args.self.now in
    defined_where_covered k (with_unit k list) c.args.range.now c.covers.result (rw (ranges_with k list) c.covers.ensures)
