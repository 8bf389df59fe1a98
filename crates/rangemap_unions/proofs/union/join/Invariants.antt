use Rattle.std.proofs.Common.{◌≡◌, length, unwrap_or}
use Rattle.rangemap_core.specs.Sets.{ranges}
use Rattle.rangemap_core.specs.Shown.{shown_range}
use Rattle.rangemap_unions.specs.Items.{items_from, merged}
use Rattle.rangemap_unions.proofs.union.join.Given as goal

-- what was taken is joined to the first range
abbrev pub invariant-joined : goal.invariant-joined
invariant-joined g l =
    let places = g.C.Range.KeyRange.places in
    let target = shown_range g.C.Cursor.given in
    let left = g.C.Cursor.left in
    items_from places (target l.fn.first) (target (unwrap_or l.fn.last l.fn.first)) (merged places (ranges (left l.fn.left)) (ranges (left l.fn.right)))
    ≡ items_from places (target l.fn.first) (target (unwrap_or l.last l.fn.first)) (merged places (ranges (left l.left)) (ranges (left l.right)))

abbrev pub decreases-joined : goal.decreases-joined
decreases-joined g l = length (merged g.C.Range.KeyRange.places (ranges (g.C.Cursor.left l.left)) (ranges (g.C.Cursor.left l.right)))
