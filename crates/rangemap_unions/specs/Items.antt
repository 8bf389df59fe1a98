-- The items of unions and intersections of two lists of ranges.
use Rattle.std.specs.Prelude.{Bool, ◌&&◌, if◌then◌else◌, List, [], ◌∷◌}
use Rattle.std.specs.Ordering.{is_lt}
use Rattle.rangemap_core.specs.operations.Places.{RangePlaces}

module _ {P X : Type 0} (l : RangePlaces P X) where
  -- s starts before r ends
  abbrev pub reaches : X → X → Bool
  reaches r s = is_lt (l.order (l.start_place s) (l.end_place r))

  -- of two ranges the one that ends later, and the first where they end alike
  abbrev pub later_end : X → X → X
  later_end r s = if is_lt (l.order (l.end_place r) (l.end_place s)) then s else r

  -- of two ranges the one that ends earlier, and the second where they end alike
  abbrev pub earlier_end : X → X → X
  earlier_end r s = if is_lt (l.order (l.end_place r) (l.end_place s)) then r else s

  -- of two ranges the one that starts later, and the first where they start alike
  abbrev pub later_start : X → X → X
  later_start r s = if is_lt (l.order (l.start_place r) (l.start_place s)) then s else r

  -- ---- union

  -- p and what follows it merged with a list, where `on` merges what follows
  abbrev pub merged_from : X → (List X → List X) → List X → List X
  merged_from p on [] = p ∷ on []
  merged_from p on (q ∷ qs) = if is_lt (l.order (l.start_place p) (l.start_place q)) then p ∷ on (q ∷ qs) else q ∷ merged_from p on qs

  -- the ranges of both lists, by their starts
  abbrev pub merged : List X → List X → List X
  merged [] qs = qs
  merged (p ∷ ps) qs = merged_from p (merged ps) qs

  -- an item that starts with `first` and ends with `last`, as far as what comes overlaps it, and the items behind it
  abbrev pub items_from : X → X → List X → List X
  items_from first last [] = l.between first last ∷ []
  items_from first last (r ∷ rest) =
      if reaches last r then items_from first (later_end last r) rest else l.between first last ∷ items_from r r rest

  -- the items of ranges by their starts
  abbrev pub items_of : List X → List X
  items_of [] = []
  items_of (r ∷ rest) = items_from r r rest

  -- the items of a union
  abbrev pub union_items : List X → List X → List X
  union_items ps qs = items_of (merged ps qs)

  -- ---- intersection

  -- what two ranges have in common stands before the rest
  abbrev pub with_common : X → X → List X → List X
  with_common p q rest = if reaches p q && reaches q p then l.between (later_start p q) (earlier_end p q) ∷ rest else rest

  -- the common parts of p and what follows it with a list, where `on` gives those of what follows
  abbrev pub common_from : X → (List X → List X) → List X → List X
  common_from p on [] = []
  common_from p on (q ∷ qs) =
      with_common p q (if is_lt (l.order (l.end_place p) (l.end_place q)) then on (q ∷ qs) else common_from p on qs)

  -- the items of an intersection
  abbrev pub intersection_items : List X → List X → List X
  intersection_items [] qs = []
  intersection_items (p ∷ ps) qs = common_from p (intersection_items ps) qs
