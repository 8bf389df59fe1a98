use Rattle.std.proofs.Common.{◌≡◌, ◌+◌, length, option_map}
use Rattle.rangemap_core.specs.Sets.{ranges}
use Rattle.rangemap_core.specs.Shown.{shown_range}
use Rattle.rangemap_unions.specs.Parts.{parts_left}
use Rattle.rangemap_unions.proofs.difference.Sides.try_next.Given as goal

-- no part was free in front of what is left
abbrev pub invariant-parts : goal.invariant-parts
invariant-parts g l =
    let left = g.C.Cursor.left in
    let parts = parts_left g.Q.Kind.kind g.Q.Kind.end_place g.Q.Kind.part_of in
    let passed = option_map (shown_range g.C.Cursor.given) in
    parts (passed l.fn.self.passed) (ranges (left l.fn.self.left)) (ranges (left l.fn.self.right))
    ≡ parts (passed l.self.passed) (ranges (left l.self.left)) (ranges (left l.self.right))

abbrev pub decreases-parts : goal.decreases-parts
decreases-parts g l = length (ranges (g.C.Cursor.left l.self.left)) + length (ranges (g.C.Cursor.left l.self.right))
