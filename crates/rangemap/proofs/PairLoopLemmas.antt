-- For callers that loop over the pairs of a map: what each is, and what all of them are.
use Rattle.std.proofs.Common.{◌≡◌, ℕ, suc, take, drop, get_or, unwrap_or, Bool, true, false, cond, List, [], ◌∷◌, ◌++◌, filter, map, Option, Some, None, option_map, refl, sym, ap, subst, ◌∙◌}
use Rattle.std.specs.Borrow.{Bor}
use Rattle.std.specs.List.{All, AllByRecursion, slice_get}
use Rattle.std.proofs.Math.Seq.{drop-cons}
use Rattle.std.proofs.lemmas.List.{take-append-drop}
use Rattle.std.proofs.lemmas.Option.{slice_get_within, unwrap_or-slice_get}
use Rattle.std.specs.Map.Iter.{deref_pair}
use Rattle.std.proofs.lemmas.List.Elements.{recursion_from_All}
use Rattle.std.proofs.lemmas.Map.Iter.{iter_end, rest_more, rest_so_far}
use Rattle.rangemap_core.specs.Ranges.{RangeKind, IsCanonical, IsStorable, covering, overlapped, value_at}
use Rattle.rangemap_core.specs.engine.Endpoints.{IsPlaced, EndpointOf}
use Rattle.rangemap_core.specs.engine.PlacedKinds.{place_total}
use Rattle.rangemap_core.specs.laws.Orders.{lt_le}
use Rattle.rangemap.proofs.Loops.{LendsPairs}
use Rattle.rangemap_core.proofs.StoredKeyLemmas.{below_end_place, none_before, shared_where_meets}

-- The pair is one of the list: its range may be stored, and each key of it has its value.
pub record IsStored {K X V : Type 0} (k : RangeKind K X) (list : List (X × V)) (a : X × V) : Type 0 where
  pub range : IsStorable k a.0
  pub value : (x : K) → k.is_key x → k.holds a.0 x ≡ true → value_at k list x ≡ Some a.1

-- what is left of a list where a test holds comes from the list, and passes the test
module _ {A : Type 0} (test : A → Bool) (a : A) (after : List A) where
  abbrev IsAmong : List A → Type 0
  IsAmong list = (front : List A) × (back : List A) × (list ≡ front ++ a ∷ back) × (test a ≡ true)

  one_later : (b : A) (list : List A) → IsAmong list → IsAmong (b ∷ list)
  one_later b list s = (b ∷ s.0, s.1, ap (λ xs. b ∷ xs) s.2, s.3)

  first_is : (b c : A) (bs cs : List A) → b ∷ bs ≡ c ∷ cs → b ≡ c
  first_is b c bs cs h = cc

  rest_is : (b c : A) (bs cs : List A) → b ∷ bs ≡ c ∷ cs → bs ≡ cs
  rest_is b c bs cs h = cc

  among_filtered : (list before : List A) → filter test list ≡ before ++ a ∷ after → IsAmong list
  among_filtered [] [] h = absurd (cc)
  among_filtered [] (c ∷ before) h = absurd (cc)
  among_filtered (b ∷ list) before h = go (test b) refl before h (λ before h. among_filtered list before h)
    where
      go : (t : Bool) → test b ≡ t → (before : List A) → cond t (b ∷ filter test list) (filter test list) ≡ before ++ a ∷ after → ((before : List A) → filter test list ≡ before ++ a ∷ after → IsAmong list) → IsAmong (b ∷ list)
      go false e before h rest = one_later b list (rest before h)
      go true e [] h rest =
          let same = first_is b a (filter test list) after h in
          ([], list, ap (λ x. x ∷ list) same, subst (λ x. test x ≡ true) same e)
      go true e (c ∷ before) h rest = one_later b list (rest before (rest_is b c (filter test list) (before ++ a ∷ after) h))

module _ {K X V : Type 0} {k : RangeKind K X} {end_place : X → Option K} {part : EndpointOf X → EndpointOf X → X} (p : IsPlaced k end_place part) (eq : V → V → Bool) where
  -- the pairs behind one that has a key don't have it
  none_behind : (b : X × V) (rest : List (X × V)) (x : K) → IsCanonical k eq (b ∷ rest) → k.is_key x → k.holds b.0 x ≡ true → covering k rest x ≡ None
  none_behind b [] x can key h = refl
  none_behind b (c ∷ rest) x can key h = none_before p eq c rest x can.2 key (lt_le (place_total p.total) {a = Some x} {b = end_place b.0} {c = Some (k.start c.0)} (below_end_place p b.0 x can.0 key h) (p.before b.0 c.0 can.0 can.2.0 can.1.0))

  covering_among : (before : List (X × V)) (a : X × V) (after : List (X × V)) → IsCanonical k eq (before ++ a ∷ after) → IsStorable k a.0 × ((x : K) → k.is_key x → k.holds a.0 x ≡ true → covering k (before ++ a ∷ after) x ≡ Some a)
  covering_among [] a after can = (can.0, λ x key h. ap (λ b. cond b (Some a) (covering k after x)) h)
  covering_among (b ∷ before) a after can =
      let rest = covering_among before a after can.2 in
      (rest.0, λ x key h. go x key (k.holds b.0 x) refl (rest.1 x key h))
    where
      not_both : {c : Option (X × V)} → c ≡ None → c ≡ Some a → ⊥
      not_both n s = cc

      go : (x : K) → k.is_key x → (t : Bool) → k.holds b.0 x ≡ t → covering k (before ++ a ∷ after) x ≡ Some a → cond t (Some b) (covering k (before ++ a ∷ after) x) ≡ Some a
      go x key true e found = absurd (not_both (none_behind b (before ++ a ∷ after) x can key e) found)
      go x key false e found = found

  pub stored_among : (before : List (X × V)) (a : X × V) (after : List (X × V)) → IsCanonical k eq (before ++ a ∷ after) → IsStored k (before ++ a ∷ after) a
  stored_among before a after can =
      let found = covering_among before a after can in
      record { range = found.0; value = λ x key h. ap (option_map (λ (q : X × V). q.1)) (found.1 x key h) }

  -- the pair at a place of the list, as `first_range_value` and `last_range_value` give it
  pub pair_is_stored : (list : List (X × V)) (at : ℕ) {a : X × V} → IsCanonical k eq list → Some a ≡ slice_get list at → IsStored k list a
  pair_is_stored list at {a} can h =
      let there : get_or list at a ≡ a = sym (unwrap_or-slice_get list at a) ∙ ap (λ o. unwrap_or o a) (sym h) in
      let whole : list ≡ take at list ++ a ∷ drop (suc at) list = sym (take-append-drop at list) ∙ ap (λ xs. take at list ++ xs) (drop-cons list at a (slice_get_within list at a (sym h)) ∙ ap (λ b. b ∷ drop (suc at) list) there) in
      subst (λ xs. IsStored k xs a) (sym whole) (stored_among (take at list) a (drop (suc at) list) (subst (IsCanonical k eq) whole can))

module _ {K X V : Type 0} {k : RangeKind K X} {end_place : X → Option K} {part : EndpointOf X → EndpointOf X → X} (p : IsPlaced k end_place part) (eq : V → V → Bool) (list : List (X × V)) {items : List (Bor X × Bor V)} {result : Option (Bor X × Bor V)} where
  -- a further item of `for (range, value) in map.iter()` is one of the map's
  pub item_is_stored : IsCanonical k eq list → LendsPairs list items result → {item : Bor X × Bor V} → result ≡ Some item → IsStored k list (deref_pair item)
  item_is_stored can asks {item} some =
      let whole : list ≡ map deref_pair items ++ deref_pair item ∷ asks.new = sym (asks.is ∙ asks.all) ∙ rest_so_far deref_pair items asks.start asks.left asks.so_far ∙ ap (λ xs. map deref_pair items ++ xs) (rest_more deref_pair asks.left asks.new result item some asks.step) in
      subst (λ xs. IsStored k xs (deref_pair item)) (sym whole) (stored_among p eq (map deref_pair items) (deref_pair item) asks.new (subst (IsCanonical k eq) whole can))

-- A canonical list is asked for what overlaps a range that may be stored.
pub record IsAsked {K X V : Type 0} (k : RangeKind K X) (eq : V → V → Bool) (list : List (X × V)) (query : X) : Type 0 where
  pub canonical : IsCanonical k eq list
  pub storable : IsStorable k query

-- The pair is one of the list, and `at` is a key of it and of the query.
pub record IsMet {K X V : Type 0} (k : RangeKind K X) (list : List (X × V)) (query : X) (a : X × V) : Type 0 where
  pub stored : IsStored k list a
  pub at : K
  pub is_key : k.is_key at
  pub asked : k.holds query at ≡ true
  pub holds : k.holds a.0 at ≡ true

module _ {K X V : Type 0} {k : RangeKind K X} {end_place : X → Option K} {part : EndpointOf X → EndpointOf X → X} (p : IsPlaced k end_place part) {eq : V → V → Bool} {list : List (X × V)} {query : X} (asked : IsAsked k eq list query) {items : List (Bor X × Bor V)} {result : Option (Bor X × Bor V)} where
  -- so is a further item of `for (range, value) in map.overlapping(&query)`
  pub met_item_is_stored : LendsPairs (overlapped k list query) items result → {item : Bor X × Bor V} → result ≡ Some item → IsMet k list query (deref_pair item)
  met_item_is_stored asks {item} some =
      let whole : overlapped k list query ≡ map deref_pair items ++ deref_pair item ∷ asks.new = sym (asks.is ∙ asks.all) ∙ rest_so_far deref_pair items asks.start asks.left asks.so_far ∙ ap (λ xs. map deref_pair items ++ xs) (rest_more deref_pair asks.left asks.new result item some asks.step) in
      met (among_filtered meets pair asks.new list (map deref_pair items) whole)
    where
      meets : X × V → Bool
      meets b = k.meets query b.0

      pair : X × V
      pair = deref_pair item

      met : IsAmong meets pair asks.new list → IsMet k list query pair
      met s =
          let stored : IsStored k list pair = subst (λ xs. IsStored k xs pair) (sym s.2) (stored_among p eq s.0 pair s.1 (subst (IsCanonical k eq) s.2 asked.canonical)) in
          let shared = shared_where_meets p query pair.0 asked.storable stored.range s.3 in
          record { stored = stored; at = shared.0; is_key = shared.1; asked = shared.2; holds = shared.3 }

-- The value v of the key x is that of a pair of which P holds.
pub record ComesFrom {K X V : Type 0} (k : RangeKind K X) (P : X × V → Type 0) (x : K) (v : V) : Type 0 where
  pub pair : X × V
  pub kept : P pair
  pub is : pair.1 ≡ v
  pub holds : k.holds pair.0 x ≡ true

module _ {K X V : Type 0} (k : RangeKind K X) (list : List (X × V)) (P : X × V → Type 0) where
  -- where P holds of all pairs
  pub value_from_each : AllByRecursion P list → (x : K) (v : V) → value_at k list x ≡ Some v → ComesFrom k P x v
  value_from_each each x v h = by list each h
    where
      some_is : (u w : V) → Some u ≡ Some w → u ≡ w
      some_is u w e = cc

      by : (pairs : List (X × V)) → AllByRecursion P pairs → value_at k pairs x ≡ Some v → ComesFrom k P x v
      by [] each h = absurd (cc)
      by (b ∷ pairs) each h = go (k.holds b.0 x) refl h (by pairs each.1)
        where
          go : (t : Bool) → k.holds b.0 x ≡ t → option_map (λ (q : X × V). q.1) (cond t (Some b) (covering k pairs x)) ≡ Some v → (value_at k pairs x ≡ Some v → ComesFrom k P x v) → ComesFrom k P x v
          go true e g rest = record { pair = b; kept = each.0; is = some_is b.1 v g; holds = e }
          go false e g rest = rest g

  each_mapped : (items : List (Bor X × Bor V)) → AllByRecursion (λ item. P (deref_pair item)) items → AllByRecursion P (map deref_pair items)
  each_mapped [] each = each
  each_mapped (item ∷ items) each = (each.0, each_mapped items each.1)

  -- at the end of a loop over the pairs of the list, where P held of each item
  pub value_from_items : {items : List (Bor X × Bor V)} {result : Option (Bor X × Bor V)} → LendsPairs list items result → All (λ item. P (deref_pair item)) items → result ≡ None → (x : K) (v : V) → value_at k list x ≡ Some v → ComesFrom k P x v
  value_from_items {items} {result} asks each none =
      value_from_each (subst (AllByRecursion P) (iter_end deref_pair list items asks.start asks.left asks.new result (asks.is ∙ asks.all) asks.so_far none asks.step).0 (each_mapped items (recursion_from_All (λ item. P (deref_pair item)) items each)))
