-- The edges of the ranges of two lists, in order, without those that are at one place in both; and the parts from each second one up
-- to the next.
use Rattle.std.specs.Prelude.{Bool, if◌then◌else◌, List, [], ◌∷◌, Option, Some, None}
use Rattle.rangemap_core.specs.Ranges.{RangeKind}
use Rattle.rangemap_core.specs.engine.Endpoints.{EndpointOf, AtStart, AtEnd, is_before, part_before}

-- one edge of the range: its end, or its start
abbrev pub edge_at : {X : Type 0} → Bool → X → EndpointOf X
edge_at is_end r = if is_end then AtEnd r else AtStart r

-- both edges of each range
abbrev pub edges_of : {X : Type 0} → List X → List (EndpointOf X)
edges_of [] = []
edges_of (r ∷ rest) = AtStart r ∷ AtEnd r ∷ edges_of rest

-- those that are left, where the start of the first range was passed, if `is_inside` is true
abbrev pub edges_left : {X : Type 0} → Bool → List X → List (EndpointOf X)
edges_left is_inside [] = []
edges_left is_inside (r ∷ rest) = if is_inside then AtEnd r ∷ edges_of rest else AtStart r ∷ AtEnd r ∷ edges_of rest

module _ {K X : Type 0} (k : RangeKind K X) (end_place : X → Option K) where
  -- e and what follows it beside the edges of the other list, where `on` goes on with what follows e
  abbrev pub crossed_from : EndpointOf X → (List (EndpointOf X) → List (EndpointOf X)) → List (EndpointOf X) → List (EndpointOf X)
  crossed_from e on [] = e ∷ on []
  crossed_from e on (f ∷ fs) =
      if is_before k end_place e f then e ∷ on (f ∷ fs) else if is_before k end_place f e then f ∷ crossed_from e on fs else on fs

  -- the edges of both lists, in order, without those that are at one place in both
  abbrev pub crossed : List (EndpointOf X) → List (EndpointOf X) → List (EndpointOf X)
  crossed [] fs = fs
  crossed (e ∷ es) fs = crossed_from e (crossed es) fs

  module _ (part : EndpointOf X → EndpointOf X → X) where
    -- the parts from each second edge up to the next
    abbrev pub parts_between : List (EndpointOf X) → List X
    parts_between [] = []
    parts_between (e ∷ []) = []
    parts_between (e ∷ f ∷ rest) = part_before k end_place part e f (parts_between rest)

    -- the parts from the one edge of a pair up to the other, and then those between the edges behind it; where there is no pair, none
    abbrev pub parts_ready : Option (EndpointOf X × EndpointOf X) → List (EndpointOf X) → List X
    parts_ready None rest = []
    parts_ready (Some pair) rest = part_before k end_place part pair.0 pair.1 (parts_between rest)

    -- the parts that exactly one of two lists has
    abbrev pub exchanged_items : List X → List X → List X
    exchanged_items ps qs = parts_between (crossed (edges_of ps) (edges_of qs))
