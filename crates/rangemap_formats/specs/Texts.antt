-- The debug text of a list of ranges, with values and alone, from the texts of keys and values. There is one where each key
-- and each value of the list has one.
use Rattle.std.specs.Prelude.{◌≡◌, ⊤, ℕ, List, [], ◌∷◌, ◌++◌, Option, Some, codes, flat_map}
use Rattle.std.specs.Fmt.{◌++?◌, debug_escape}
use Rattle.std.specs.List.{join_by}
use Rattle.rangemap_core.specs.Ranges.{RangeKind}

-- the texts of all items, each after `, `
abbrev pub others_text : {X : Type 0} → (X → Option (List ℕ)) → List X → Option (List ℕ)
others_text text [] = Some []
others_text text (x ∷ rest) = Some (codes ", ") ++? text x ++? others_text text rest

-- the texts of all items, with `, ` between
abbrev pub items_text : {X : Type 0} → (X → Option (List ℕ)) → List X → Option (List ℕ)
items_text text [] = Some []
items_text text (x ∷ rest) = text x ++? others_text text rest

-- the same in braces
abbrev pub braced_text : {X : Type 0} → (X → Option (List ℕ)) → List X → Option (List ℕ)
braced_text text list = Some (codes "{") ++? items_text text list ++? Some (codes "}")

module _ {K X : Type 0} (k : RangeKind K X) (dots : List ℕ) (key_text : K → Option (List ℕ)) where
  -- the start, the dots of the kind of range, the end
  abbrev pub range_text : X → Option (List ℕ)
  range_text r = key_text (k.start r) ++? Some dots ++? key_text (k.end r)

  -- `{0..100, 200..300}`
  abbrev pub set_text : List X → Option (List ℕ)
  set_text = braced_text range_text

  module _ {V : Type 0} (value_text : V → Option (List ℕ)) where
    -- the range, `: `, the value
    abbrev pub pair_text : X × V → Option (List ℕ)
    pair_text p = range_text p.0 ++? Some (codes ": ") ++? value_text p.1

    -- `{0..100: "abc", 200..300: "ghi"}`
    abbrev pub map_text : List (X × V) → Option (List ℕ)
    map_text = braced_text pair_text

-- ---- where the texts are known, as those of whole numbers are, and those of ASCII texts

-- an ASCII text in quotes, escaped
abbrev pub quoted : List ℕ → List ℕ
quoted text = 34 ∷ (flat_map (debug_escape 34) text ++ 34 ∷ [])

-- `{`, the items joined by `, `, then `}`
abbrev pub plain_braced : {X : Type 0} → (X → List ℕ) → List X → List ℕ
plain_braced item list = codes "{" ++ (join_by item (codes ", ") list ++ codes "}")

module _ {K X : Type 0} (k : RangeKind K X) (dots : List ℕ) (key : K → List ℕ) where
  -- the start, the dots, the end
  abbrev pub plain_range : X → List ℕ
  plain_range r = key (k.start r) ++ (dots ++ key (k.end r))

  -- the text of a set
  abbrev pub plain_set : List X → List ℕ
  plain_set = plain_braced plain_range

  -- the keys of the list have these texts
  abbrev pub AreKeyTexts : (K → Option (List ℕ)) → List X → Type 0
  AreKeyTexts key_text [] = ⊤
  AreKeyTexts key_text (r ∷ rest) =
      (key_text (k.start r) ≡ Some (key (k.start r))) × (key_text (k.end r) ≡ Some (key (k.end r))) × AreKeyTexts key_text rest

  module _ {V : Type 0} (value : V → List ℕ) where
    -- the range, `: `, the value
    abbrev pub plain_pair : X × V → List ℕ
    plain_pair p = plain_range p.0 ++ (codes ": " ++ value p.1)

    -- the text of a map
    abbrev pub plain_map : List (X × V) → List ℕ
    plain_map = plain_braced plain_pair

    -- the keys and values of the list have these texts
    abbrev pub AreTexts : (K → Option (List ℕ)) → (V → Option (List ℕ)) → List (X × V) → Type 0
    AreTexts key_text value_text [] = ⊤
    AreTexts key_text value_text (p ∷ rest) =
        (key_text (k.start p.0) ≡ Some (key (k.start p.0))) × (key_text (k.end p.0) ≡ Some (key (k.end p.0)))
        × (value_text p.1 ≡ Some (value p.1)) × AreTexts key_text value_text rest
