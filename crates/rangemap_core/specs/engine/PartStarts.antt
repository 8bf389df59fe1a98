-- Where a part of a range that is left free may start.
use Rattle.std.specs.Prelude.{Option, Some, None}
use Rattle.rangemap_core.specs.engine.Endpoints.{EndpointOf, AtStart, AtEnd}

-- behind the range that was passed last, or with the outer range where none was
abbrev pub part_start : {X : Type 0} → Option X → X → EndpointOf X
part_start None outer = AtStart outer
part_start (Some passed) outer = AtEnd passed
