-- The edges of a list that are still to come, and how many pairs of them may be.
use Rattle.std.proofs.Common.{◌≡◌, ℕ, suc, Bool, true, false, List, [], ◌∷◌, Option, Some, None, length, refl, ap}
use Rattle.rangemap_core.specs.engine.Endpoints.{EndpointOf, AtEnd}
use Rattle.rangemap_unions.specs.Edges.{edge_at, edges_left, edges_of}

-- the start of no range was passed
pub none_passed : {X : Type 0} (rs : List X) → edges_left false rs ≡ edges_of rs
none_passed [] = refl
none_passed (r ∷ rest) = refl

-- the next edge is one of the next range
pub next_edge : {X : Type 0} (is_inside : Bool) (rs : List X) (r : X) (rest : List X) → rs ≡ r ∷ rest → (es : List (EndpointOf X)) × (edges_left is_inside rs ≡ edge_at is_inside r ∷ es)
next_edge true rs r rest h = (edges_of rest, ap (edges_left true) h)
next_edge false rs r rest h = (AtEnd r ∷ edges_of rest, ap (edges_left false) h)

-- how many pairs of edges may come at most, where one was taken that `rest` follows, or none was
abbrev pub steps_left : {P E : Type 0} → Option P → List E → ℕ
steps_left None rest = 0
steps_left (Some pair) rest = suc (length rest)
