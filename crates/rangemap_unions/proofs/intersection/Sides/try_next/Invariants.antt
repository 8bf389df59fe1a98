use Rattle.std.proofs.Common.{◌≡◌, ◌+◌, length}
use Rattle.rangemap_core.specs.Sets.{ranges}
use Rattle.rangemap_unions.specs.Items.{intersection_items}
use Rattle.rangemap_unions.proofs.intersection.Sides.try_next.Given as goal

-- what was passed has nothing in common
abbrev pub invariant-both : goal.invariant-both
invariant-both g l =
    let left = g.C.Cursor.left in
    intersection_items g.C.Range.KeyRange.places (ranges (left l.fn.self.left)) (ranges (left l.fn.self.right))
    ≡ intersection_items g.C.Range.KeyRange.places (ranges (left l.self.left)) (ranges (left l.self.right))

abbrev pub decreases-both : goal.decreases-both
decreases-both g l = length (ranges (g.C.Cursor.left l.self.left)) + length (ranges (g.C.Cursor.left l.self.right))
