use Rattle.std.proofs.Common.{◌≡◌, ◌+◌, length}
use Rattle.rangemap_unions.specs.Edges.{crossed}
use Rattle.rangemap_unions.proofs.edges.Sides.take.Given as goal

-- no edge was passed that is not in both lists
abbrev pub invariant-alike : goal.invariant-alike
invariant-alike g l =
    let edges = crossed g.Q.Kind.kind g.Q.Kind.end_place in
    edges l.fn.self.left l.fn.self.right ≡ edges l.self.left l.self.right

abbrev pub decreases-alike : goal.decreases-alike
decreases-alike g l = length l.self.left + length l.self.right
