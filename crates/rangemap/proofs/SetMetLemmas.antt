-- For callers that loop over what overlaps a range in a set, or ask for its first or last range: what each range is, and what all
-- of them are.
use Rattle.std.proofs.Common.{◌≡◌, ◌∙◌, ◌++◌, ◌∷◌, [], ℕ, zero, suc, ap, cond, map, refl, subst, sym, Bool, true, false, is_some, List, Option, Some, None}
use Rattle.std.specs.Borrow.{Bor}
use Rattle.std.specs.List.{All, AllByRecursion, find, slice_get}
use Rattle.std.specs.Map.Iter.{deref}
use Rattle.std.proofs.lemmas.Map.Iter.{rest_more, rest_so_far}
use Rattle.rangemap_core.specs.engine.Endpoints.{EndpointOf, IsPlaced}
use Rattle.rangemap_core.specs.Ranges.{IsStorable, RangeKind, covers, overlapped, unit_eq, with_unit}
use Rattle.rangemap_core.specs.Sets.{IsCanonicalSet, met}
use Rattle.rangemap_core.proofs.SetLemmas.{valued_where_covered}
use Rattle.rangemap_core.proofs.UnitValueLemmas.{ranges_met, ranges_with, value_covers}
use Rattle.rangemap_core.proofs.StoredKeyLemmas.{shared_where_meets}
use Rattle.rangemap.proofs.LoopLemmas.{LiesIn, covered_by_items, met_value}
use Rattle.rangemap.proofs.Loops.{LendsRanges}

-- The range is one of the set: it may be stored, and the set has each key of it.
pub record IsSetRange {K X : Type 0} (k : RangeKind K X) (set : List X) (range : X) : Type 0 where
  pub stored : IsStorable k range
  pub covered : (x : K) → k.holds range x ≡ true → covers k set x ≡ true

-- A canonical set is asked for what overlaps a range that may be stored.
pub record IsSetAsked {K X : Type 0} (k : RangeKind K X) (set : List X) (query : X) : Type 0 where
  pub canonical : IsCanonicalSet k set
  pub storable : IsStorable k query

-- The range is one of the set, and `at` is a key of it and of the query.
pub record IsMetRange {K X : Type 0} (k : RangeKind K X) (set : List X) (query : X) (range : X) : Type 0 where
  pub stored : IsStorable k range
  pub covered : (x : K) → k.holds range x ≡ true → covers k set x ≡ true
  pub at : K
  pub is_key : k.is_key at
  pub asked : k.holds query at ≡ true
  pub holds : k.holds range at ≡ true

module _ {X : Type 0} (P : X → Type 0) where
  of_middle : (taken : List X) (r : X) (rest : List X) → AllByRecursion P (taken ++ r ∷ rest) → P r
  of_middle [] r rest h = h.0
  of_middle (t ∷ taken) r rest h = of_middle taken r rest h.1

  of_place : (list : List X) (at : ℕ) {r : X} → AllByRecursion P list → Some r ≡ slice_get list at → P r
  of_place [] at h some = absurd (cc)
  of_place (s ∷ list) zero {r} h some = subst P (same r s some) h.0
    where
      same : (r s : X) → Some r ≡ Some s → s ≡ r
      same r s e = cc
  of_place (s ∷ list) (suc at) h some = of_place list at h.1 some

module _ {K X : Type 0} (k : RangeKind K X) where
  -- what the first range of a list covers, and what the others do
  covers_first : (r : X) (list : List X) (x : K) → k.holds r x ≡ true → covers k (r ∷ list) x ≡ true
  covers_first r list x h = ap (λ b. is_some (cond b (Some r) (find (λ s. k.holds s x) list))) h

  covers_later : (r : X) (list : List X) (x : K) → covers k list x ≡ true → covers k (r ∷ list) x ≡ true
  covers_later r list x h = go (k.holds r x)
    where
      go : (b : Bool) → is_some (cond b (Some r) (find (λ s. k.holds s x) list)) ≡ true
      go true = refl
      go false = h

  each_stored : (set list : List X) → IsCanonicalSet k list → ((x : K) → covers k list x ≡ true → covers k set x ≡ true) → AllByRecursion (IsSetRange k set) list
  each_stored set [] can within = tt
  each_stored set (r ∷ list) can within = (
    record { stored = can.0; covered = λ x h. within x (covers_first r list x h) },
    each_stored set list can.2 (λ x h. within x (covers_later r list x h)),
  )

  -- the range at a place of the set, as `first` and `last` give it
  pub range_is_stored : (set : List X) (at : ℕ) {range : X} → IsCanonicalSet k set → Some range ≡ slice_get set at → IsSetRange k set range
  range_is_stored set at can some = of_place (IsSetRange k set) set at (each_stored set set can (λ x h. h)) some

module _ {K X : Type 0} {k : RangeKind K X} {end_place : X → Option K} {part : EndpointOf X → EndpointOf X → X} (p : IsPlaced k end_place part) where
  each_met : (set list : List X) (query : X) → IsStorable k query → IsCanonicalSet k list → ((x : K) → covers k list x ≡ true → covers k set x ≡ true) → AllByRecursion (IsMetRange k set query) (met k list query)
  each_met set [] query asked can within = tt
  each_met set (r ∷ list) query asked can within = go (k.meets query r) refl (each_met set list query asked can.2 (λ x h. within x (covers_later k r list x h)))
    where
      go : (b : Bool) → k.meets query r ≡ b → AllByRecursion (IsMetRange k set query) (met k list query) → AllByRecursion (IsMetRange k set query) (cond b (r ∷ met k list query) (met k list query))
      go true meets rest =
          let one = shared_where_meets p query r asked can.0 meets in
          (record { stored = can.0; covered = λ x h. within x (covers_first k r list x h); at = one.0; is_key = one.1; asked = one.2; holds = one.3 }, rest)
      go false meets rest = rest

  -- what is met has the keys of the query that the set has
  pub met_covers : (set : List X) (query : X) → IsCanonicalSet k set → IsStorable k query → (x : K) → k.is_key x → k.holds query x ≡ true → covers k (met k set query) x ≡ covers k set x
  met_covers set query can asked x key holds =
      sym (ap (λ rs. covers k rs x) (ranges_met k (with_unit k set) query ∙ ap (λ rs. met k rs query) (ranges_with k set)))
      ∙ sym (value_covers k (overlapped k (with_unit k set) query) x)
      ∙ ap is_some (met_value p (unit_eq k) query asked (with_unit k set) can x key holds)
      ∙ valued_where_covered k set x

  module _ {set : List X} {query : X} (asked : IsSetAsked k set query) {items : List (Bor X)} {result : Option (Bor X)} (lends : LendsRanges (met k set query) items result) where
    -- a further item of `for range in set.overlapping(&query)` is a range of the set, and has a key of the query
    pub met_range_is_stored : {item : Bor X} → result ≡ Some item → IsMetRange k set query item.now
    met_range_is_stored {item} some =
        let all : met k set query ≡ map deref items ++ item.now ∷ lends.new = sym lends.all ∙ (sym lends.is ∙ (rest_so_far deref items lends.start lends.left lends.so_far ∙ ap (λ rest. map deref items ++ rest) (rest_more deref lends.left lends.new result item some lends.step))) in
        of_middle (IsMetRange k set query) (map deref items) item.now lends.new (subst (AllByRecursion (IsMetRange k set query)) all (each_met set set query asked.storable asked.canonical (λ x h. h)))

    -- at the end of such a loop, where P held of each item, each key of the query that the set has lies in a range of which P holds
    pub covered_by_met_items : (P : X → Type 0) → All (λ item. P (deref item)) items → result ≡ None → (x : K) → k.is_key x → k.holds query x ≡ true → covers k set x ≡ true → LiesIn k P x
    covered_by_met_items P each none x key holds there = covered_by_items k (met k set query) P lends each none x (met_covers set query asked.canonical asked.storable x key holds ∙ there)
