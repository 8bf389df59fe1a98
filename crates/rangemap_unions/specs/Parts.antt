-- The parts of the ranges of one list that the ranges of another leave free.
use Rattle.std.specs.Prelude.{if◌then◌else◌, List, [], ◌∷◌, Option, Some, None}
use Rattle.rangemap_core.specs.Ranges.{RangeKind}
use Rattle.rangemap_core.specs.engine.Endpoints.{EndpointOf, AtStart, AtEnd, is_before, part_before}
use Rattle.rangemap_core.specs.engine.PartStarts.{part_start}

module _ {K X : Type 0} (k : RangeKind K X) (end_place : X → Option K) where
  -- where a part of p ends: with q, if that starts before p ends, or with p
  abbrev pub part_end : X → X → EndpointOf X
  part_end q p = if is_before k end_place (AtStart q) (AtEnd p) then AtStart q else AtEnd p

  -- the same, where `next` is the range that comes next, if there is one
  abbrev pub next_end : Option X → X → EndpointOf X
  next_end None p = AtEnd p
  next_end (Some q) p = part_end q p

  module _ (part : EndpointOf X → EndpointOf X → X) where
    -- the parts of p that qs leave free, and then those of what follows p, which `on` gives beside what is left of qs; a range that
    -- ends before the next part may start is left out
    abbrev pub parts_from : (List X → List X) → X → Option X → List X → List X
    parts_from on p passed [] = part_before k end_place part (part_start passed p) (AtEnd p) (on [])
    parts_from on p passed (q ∷ qs) =
        if is_before k end_place (part_start passed p) (AtEnd q)
        then part_before k end_place part (part_start passed p) (part_end q p)
        (if is_before k end_place (AtEnd q) (AtEnd p) then parts_from on p (Some q) qs else on (q ∷ qs))
        else parts_from on p passed qs

    -- the parts of ps that qs leave free
    abbrev pub difference_items : List X → List X → List X
    difference_items [] qs = []
    difference_items (p ∷ ps) qs = parts_from (difference_items ps) p None qs

    -- the parts that are still to come, where a range was passed that may lie before the first of ps
    abbrev pub parts_left : Option X → List X → List X → List X
    parts_left passed [] qs = []
    parts_left passed (p ∷ ps) qs = parts_from (difference_items ps) p passed qs

    -- those behind the part that comes next, or could: q is passed, if it ends before p does, or else p
    abbrev pub parts_behind : X → List X → List X → List X
    parts_behind p ps [] = difference_items ps []
    parts_behind p ps (q ∷ qs) = if is_before k end_place (AtEnd q) (AtEnd p) then parts_left (Some q) (p ∷ ps) qs else difference_items ps (q ∷ qs)
