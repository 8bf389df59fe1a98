-- Two lists of ranges merged step by step.
use Rattle.std.specs.Prelude.{◌≡◌, ⊤, Bool, true, false, List, [], ◌∷◌, Option, Some, None, unwrap_or}
use Rattle.std.specs.Option.{option_map}
use Rattle.std.specs.Ordering.{is_lt}
use Rattle.rangemap_unions.specs.Items.{items_from, items_of, merged, reaches}
use Rattle.rangemap_core.specs.Sets.{ranges}
use Rattle.rangemap_core.specs.Shown.{shown_range}
use Rattle.rangemap_core.specs.operations.Places.{RangePlaces}

module _ {P X : Type 0} (l : RangePlaces P X) where
  -- the first list's first range starts before the second's
  abbrev pub left_first : List X → List X → Bool
  left_first [] qs = false
  left_first (p ∷ ps) [] = true
  left_first (p ∷ ps) (q ∷ qs) = is_lt (l.order (l.start_place p) (l.start_place q))

  -- no range of the list by starts goes on where `last` ends
  abbrev pub IsUnreached : X → List X → Type 0
  IsUnreached last [] = ⊤
  IsUnreached last (r ∷ rest) = reaches l last r ≡ false

  -- the items of a union, of which one may be begun: from its first range up to its last so far
  abbrev pub items_behind : Option (X × X) → List X → List X
  items_behind None rest = items_of l rest
  items_behind (Some ends) rest = items_from l ends.0 ends.1 rest

-- The items that a union has left: of the one that it has begun, from the range of `first` up to that of `last`, or of `first`
-- again, and of what is left of both lists.
abbrev pub items_left : {P G W X V : Type 0} → RangePlaces P X → (G → X) → Option (G × W) → Option (G × W) → List (X × V) → List (X × V) → List X
items_left l given first last left right = items_behind l (option_map (λ pair. (shown_range given pair, shown_range given (unwrap_or last pair))) first) (merged l (ranges left) (ranges right))
