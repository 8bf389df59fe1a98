-- The texts of items, seen through a function, and where they are known.
use Rattle.std.proofs.Common.{◌≡◌, ℕ, Bool, true, List, [], ◌∷◌, ◌++◌, Option, Some, codes, map, flat_map, refl, sym, ap, append_assoc}
use Rattle.std.specs.Fmt.{◌++?◌}
use Rattle.std.specs.Cmp.{first_so, second_so}
use Rattle.std.specs.List.{list_all}
use Rattle.rangemap_core.specs.Ranges.{RangeKind}
use Rattle.rangemap_formats.specs.Texts.{AreKeyTexts, AreTexts, braced_text, items_text, map_text, others_text, pair_text, plain_braced, plain_map, plain_pair, plain_range, plain_set, range_text, set_text}

module _ {X Y : Type 0} (f : X → Y) (text : Y → Option (List ℕ)) where
  others_on : (list : List X) → others_text (λ x. text (f x)) list ≡ others_text text (map f list)
  others_on [] = refl
  others_on (x ∷ rest) = ap (λ o. Some (codes ", ") ++? text (f x) ++? o) (others_on rest)

  items_on : (list : List X) → items_text (λ x. text (f x)) list ≡ items_text text (map f list)
  items_on [] = refl
  items_on (x ∷ rest) = ap (λ o. text (f x) ++? o) (others_on rest)

  pub braced_on : (list : List X) → braced_text (λ x. text (f x)) list ≡ braced_text text (map f list)
  braced_on list = ap (λ o. Some (codes "{") ++? o ++? Some (codes "}")) (items_on list)

-- `Is` says of a list that the texts of its items are known.
module _ {X : Type 0} (f : X → List ℕ) (text : X → Option (List ℕ)) (Is : List X → Type 0)
    (part : (x : X) (rest : List X) → Is (x ∷ rest) → (text x ≡ Some (f x)) × Is rest) where
  others_known : (list : List X) → Is list → others_text text list ≡ Some (flat_map (λ x. codes ", " ++ f x) list)
  others_known [] h = refl
  others_known (x ∷ rest) h =
      let p = part x rest h in
      rw (p.0, others_known rest p.1) (ap Some (sym (append_assoc (codes ", ") (f x) (flat_map (λ x. codes ", " ++ f x) rest))))

  pub braced_known : (list : List X) → Is list → braced_text text list ≡ Some (plain_braced f list)
  braced_known [] h = refl
  braced_known (x ∷ rest) h = let p = part x rest h in rw (p.0, others_known rest p.1) refl

module _ {K X : Type 0} (k : RangeKind K X) (dots : List ℕ) (key_text : K → Option (List ℕ)) (key : K → List ℕ) where
  pub set_text_known : (list : List X) → AreKeyTexts k dots key key_text list → set_text k dots key_text list ≡ Some (plain_set k dots key list)
  set_text_known = braced_known (plain_range k dots key) (range_text k dots key_text) (AreKeyTexts k dots key key_text) (λ r rest h. (rw (h.0, h.1) refl, h.2))

  pub all_keys_known : ((x : K) → key_text x ≡ Some (key x)) → (list : List X) → AreKeyTexts k dots key key_text list
  all_keys_known a [] = tt
  all_keys_known a (r ∷ rest) = (a (k.start r), a (k.end r), all_keys_known a rest)

  module _ {V : Type 0} (value_text : V → Option (List ℕ)) (value : V → List ℕ) where
    pub map_text_known : (list : List (X × V)) → AreTexts k dots key value key_text value_text list → map_text k dots key_text value_text list ≡ Some (plain_map k dots key value list)
    map_text_known = braced_known (plain_pair k dots key value) (pair_text k dots key_text value_text) (AreTexts k dots key value key_text value_text) (λ p rest h. (rw (h.0, h.1, h.2) refl, h.3))

    pub all_known : ((x : K) → key_text x ≡ Some (key x)) → ((v : V) → value_text v ≡ Some (value v)) → (list : List (X × V)) → AreTexts k dots key value key_text value_text list
    all_known a b [] = tt
    all_known a b (p ∷ rest) = (a (k.start p.0), a (k.end p.0), b p.1, all_known a b rest)

    -- where the texts of the values that pass a test are known, and those of the list pass it
    pub known_where : (passes : V → Bool) → ((x : K) → key_text x ≡ Some (key x)) → ((v : V) → passes v ≡ true → value_text v ≡ Some (value v)) → (list : List (X × V))
        → list_all (λ p. passes p.1) list ≡ true → AreTexts k dots key value key_text value_text list
    known_where passes a b [] h = tt
    known_where passes a b (p ∷ rest) h =
        let all_rest = list_all (λ (q : X × V). passes q.1) rest in
        (a (k.start p.0), a (k.end p.0), b p.1 (first_so (passes p.1) all_rest h), known_where passes a b rest (second_so (passes p.1) all_rest h))
