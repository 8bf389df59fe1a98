use Rattle.rangemap_core.specs.Ranges.{IsStorable}
use Rattle.rangemap_laws.proofs.OverlapLemmas.{defined_in_where_on}
use Rattle.rangemap_laws.proofs.overlaps.covers_only_where_overlaps.Goals as goal

pub returns-clause-implies : goal.returns-clause-implies
returns-clause-implies g c =
    let k = g.M.Kind.Kind.kind in
    let q = c.args.range.now in
    let stored : IsStorable k q = record { start_is_key = c.known_ends.ensures.start_is_key; end_is_key = c.known_ends.ensures.end_is_key; non_empty = c.requires } in
    λ covers. c.overlaps_exactly_where_covered-overlaps.ensures.some.1 (defined_in_where_on g.met.M.Kind.Kind.placed q stored (g.M.Container.pairs c.args.map.now) (c.covers-covers.ensures.0 covers))
