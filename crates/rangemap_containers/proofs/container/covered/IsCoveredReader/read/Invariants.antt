use Rattle.std.proofs.Common.{◌≡◌, length, option_map}
use Rattle.rangemap_core.specs.engine.Endpoints.{AtStart, gaps_from}
use Rattle.rangemap_core.specs.Shown.{shown_range}
use Rattle.rangemap_core.specs.engine.PartStarts.{part_start}
use Rattle.rangemap_containers.proofs.container.covered.IsCoveredReader.read.Given as goal

-- no part in front of what is left is free
abbrev pub invariant-passed : goal.invariant-passed
invariant-passed g l =
    let gaps = gaps_from g.Q.Kind.kind g.Q.Kind.end_place g.Q.Kind.part_of in
    gaps (part_start (option_map (shown_range g.C.Cursor.given) l.last) l.fn.range.now) l.fn.range.now (g.C.Cursor.left l.rest)
    ≡ gaps (AtStart l.fn.range.now) l.fn.range.now (g.C.Cursor.left l.fn.pairs)

abbrev pub decreases-passed : goal.decreases-passed
decreases-passed g l = length (g.C.Cursor.left l.rest)
