use Rattle.std.proofs.Common.{◌≡◌, ◌≤◌, ◌∷◌, List, Option, length}
use Rattle.rangemap_core.specs.Sets.{ranges}
use Rattle.rangemap_core.specs.engine.Endpoints.{endpoint_of}
use Rattle.rangemap_core.specs.engine.PartStarts.{part_start}
use Rattle.rangemap_unions.specs.Parts.{parts_left}
use Rattle.rangemap_unions.proofs.difference.next_behind.Given as goal

-- what was passed left no part out
abbrev pub invariant-early : goal.invariant-early
invariant-early g l =
    let left = g.C.Cursor.left in
    let parts = parts_left g.Q.Kind.kind g.Q.Kind.end_place g.Q.Kind.part_of in
    record {
      parts : (passed : Option _) → (range : _) → (ps : List _) → endpoint_of l.from ≡ part_start passed range → parts passed (range ∷ ps) (ranges (left l.initial.right)) ≡ parts passed (range ∷ ps) (ranges (left l.right));
      fewer : length (left l.right) ≤ length (left l.initial.right);
    }

abbrev pub decreases-early : goal.decreases-early
decreases-early g l = length (g.C.Cursor.left l.right)
