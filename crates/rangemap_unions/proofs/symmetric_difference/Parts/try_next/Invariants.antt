use Rattle.std.proofs.Common.{◌≡◌}
use Rattle.rangemap_unions.specs.Edges.{crossed, parts_ready}
use Rattle.rangemap_unions.proofs.EdgeStepLemmas.{steps_left}
use Rattle.rangemap_unions.proofs.symmetric_difference.Parts.try_next.Given as goal

-- no part was passed that has a key
abbrev pub invariant-parts : goal.invariant-parts
invariant-parts g l =
    let parts = parts_ready g.Q.Kind.kind g.Q.Kind.end_place g.Q.Kind.part_of in
    let edges = crossed g.Q.Kind.kind g.Q.Kind.end_place in
    parts l.fn.self.pending (edges l.fn.self.sides.left l.fn.self.sides.right) ≡ parts l.self.pending (edges l.self.sides.left l.self.sides.right)

abbrev pub decreases-parts : goal.decreases-parts
decreases-parts g l = steps_left l.self.pending (crossed g.Q.Kind.kind g.Q.Kind.end_place l.self.sides.left l.self.sides.right)
