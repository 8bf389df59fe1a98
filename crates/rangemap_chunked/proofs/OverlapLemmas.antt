-- Which pairs of a list in chunks a query meets: some of the chunk where it starts, all of those behind it, and some of the last.
use Rattle.std.proofs.Common.{arith, ◌≡◌, ℕ, suc, ◌+◌, ◌-◌, ◌<◌, ◌≤◌, Bool, true, false, ◌&&◌, cond, List, [], ◌∷◌, ◌++◌, length, take, drop, get_or, Option, Some, refl, sym, ap, ◌∙◌, subst, append-nil, length-drop, add-one, Less, is_lt, is_gt}
use Rattle.std.proofs.lemmas.List.{get_or-drop, get_or-take, get_or_default, length-take-le}
use Rattle.std.proofs.lemmas.List.Elements.{filter-append}
use Rattle.std.specs.List.{AllWithin, filter}
use Rattle.std.specs.Cmp.{IsTotalOrder, IsEquivalence}
use Rattle.std.proofs.Math.Bool.{and-false}
use Rattle.rangemap_core.specs.Ranges.{RangeKind, IsStorable, overlapped}
use Rattle.rangemap_core.specs.engine.Endpoints.{IsAsked, IsPlaced, EndpointOf}
use Rattle.rangemap_core.specs.engine.Places.{place_cmp}
use Rattle.rangemap_core.specs.engine.Shape.{IsSpaced}
use Rattle.rangemap_core.specs.engine.Stretch.{Every, starts_within}
use Rattle.rangemap_core.proofs.ListLemmas.{Every-right, IsSpaced-right}
use Rattle.rangemap_core.proofs.PlaceLemmas.{S, places}
use Rattle.rangemap_core.proofs.PlaceOrderLemmas.{le_lt_trans, lt_le_trans}
use Rattle.rangemap_core.proofs.SearchLemmas.{Every-at}
use Rattle.rangemap_core.proofs.StoredLemmas.{all_storable}
use Rattle.rangemap_core.specs.engine.EndpointKinds.{lt_is}
use Rattle.rangemap_chunked.specs.Chunks.{IsClearBefore, AreChunks, IsPastBehind, IsPastStart, chunk_below, starts_below, whole}
use Rattle.rangemap_chunked.proofs.BorderLemmas.{Every-left, Every-zip}
use Rattle.rangemap_chunked.proofs.ChunkLemmas.{Every-chunk, Every-further, before_first, between, filled_is, passed_first, spaced_whole, whole_around, whole_behind, whole_parts}

filter_all : {Y : Type 0} (f : Y → Bool) (ys : List Y) → Every (λ y. f y ≡ true) ys → filter f ys ≡ ys
filter_all f [] h = refl
filter_all f (y ∷ ys) h = ap (λ b. cond b (y ∷ filter f ys) (filter f ys)) h.0 ∙ ap (λ zs. y ∷ zs) (filter_all f ys h.1)

-- the pairs of a chunk, as they are lent
pub pairs_at : {X : Type 0} (chunks : List (List X)) (at : ℕ) → at < length chunks → (chunk pairs : List X) → pairs ≡ chunk → chunk ≡ get_or chunks at chunk → pairs ≡ get_or chunks at []
pairs_at chunks at l chunk pairs lent is = lent ∙ is ∙ get_or_default chunks at chunk [] l

module _ {K X : Type 0} (k : RangeKind K X) {V : Type 0} (q : X) where
  overlapped_append : (xs ys : List (X × V)) → overlapped k (xs ++ ys) q ≡ overlapped k xs q ++ overlapped k ys q
  overlapped_append xs ys = filter-append (λ (a : X × V). k.meets q a.0) xs ys

module _ {K X : Type 0} {k : RangeKind K X} {end_place : X → Option K} {chunk : EndpointOf X → EndpointOf X → X} (p : IsPlaced k end_place chunk) {V : Type 0} {eq : V → V → Bool} (e : IsEquivalence eq) (q : X) (q_asked : IsAsked k q)
    (chunks : List (List (X × V))) (h : AreChunks k eq chunks) (at end : ℕ) (here : at < length chunks) (bound : end ≤ length chunks) (clear : IsClearBefore (S p eq) chunks q at) (behind : IsPastBehind (S p eq) chunks q end) where
  o : IsTotalOrder (place_cmp k.cmp)
  o = places p eq

  -- pairs that end before the query starts
  before_missed : (xs : List (X × V)) → Every (λ a. IsStorable k a.0) xs → Every (λ a. place_cmp k.cmp (end_place a.0) (Some (k.start q)) ≡ Less) xs → overlapped k xs q ≡ []
  before_missed [] st m = refl
  before_missed (a ∷ xs) st m =
      let late : is_lt (place_cmp k.cmp (Some (k.start q)) (end_place a.0)) ≡ false = grind (arith, m.0, o.antisymm (Some (k.start q)) (end_place a.0)) in
      ap (λ b. cond b (a ∷ overlapped k xs q) (overlapped k xs q)) (p.meets q a.0 q_asked st.0 ∙ ap (λ b. b && is_lt (place_cmp k.cmp (Some (k.start a.0)) (end_place q))) late) ∙ before_missed xs st.1 m.1

  -- pairs that start where it ends, or behind
  behind_missed : (xs : List (X × V)) → Every (λ a. IsStorable k a.0) xs → Every (λ a. is_gt (place_cmp k.cmp (end_place q) (Some (k.start a.0))) ≡ false) xs → overlapped k xs q ≡ []
  behind_missed [] st m = refl
  behind_missed (a ∷ xs) st m =
      let late : is_lt (place_cmp k.cmp (Some (k.start a.0)) (end_place q)) ≡ false = grind (arith, m.0, o.antisymm (Some (k.start a.0)) (end_place q)) in
      ap (λ b. cond b (a ∷ overlapped k xs q) (overlapped k xs q)) (p.meets q a.0 q_asked st.0 ∙ ap (λ b. is_lt (place_cmp k.cmp (Some (k.start q)) (end_place a.0)) && b) late ∙ and-false _) ∙ behind_missed xs st.1 m.1

  stored : Every (λ a. IsStorable k a.0) (whole chunks)
  stored = all_storable k eq (whole chunks) h.canonical

  stored_from : (n : ℕ) → Every (λ a. IsStorable k a.0) (whole (drop n chunks))
  stored_from n = Every-further (λ (a : X × V). IsStorable k a.0) chunks 0 n (omega arith) stored

  from_first : overlapped k (whole chunks) q ≡ overlapped k (get_or chunks at []) q ++ overlapped k (whole (drop (suc at) chunks)) q
  from_first =
      ap (λ xs. overlapped k xs q) (whole_around chunks at [] here) ∙ overlapped_append k q (whole (take at chunks)) (get_or chunks at [] ++ whole (drop (suc at) chunks))
      ∙ ap (λ xs. xs ++ overlapped k (get_or chunks at [] ++ whole (drop (suc at) chunks)) q) (before_missed (whole (take at chunks)) (Every-left (λ (a : X × V). IsStorable k a.0) (whole (take at chunks)) (whole (drop at chunks)) (subst (Every (λ a. IsStorable k a.0)) (whole_parts at chunks) stored)) clear)
      ∙ overlapped_append k q (get_or chunks at []) (whole (drop (suc at) chunks))

  -- where the query ends in the chunk where it starts
  pub met_alone : end ≤ at + 1 → overlapped k (whole chunks) q ≡ overlapped k (get_or chunks at []) q
  met_alone le =
      let past : IsPastBehind (S p eq) chunks q (suc at) = Every-further (λ (b : X × V). is_gt (place_cmp k.cmp (end_place q) (Some (k.start b.0))) ≡ false) chunks end (suc at) (omega arith) behind in
      from_first ∙ ap (λ xs. overlapped k (get_or chunks at []) q ++ xs) (behind_missed (whole (drop (suc at) chunks)) (stored_from (suc at)) past) ∙ append-nil (overlapped k (get_or chunks at []) q)

  -- and where it ends in a later one
  module _ (last : ℕ) (is : end ≡ suc last) (more : at + 1 ≤ last) (past : IsPastStart (S p eq) chunks q (at + 1)) (begun : AllWithin (λ xs. chunk_below (S p eq) (end_place q) xs ≡ true) chunks 0 end) where
    in_tail : last - suc at < length (drop (suc at) chunks)
    in_tail = omega (arith, length-drop (suc at) chunks)

    at_last : get_or (drop (suc at) chunks) (last - suc at) [] ≡ get_or chunks last []
    at_last = let place : suc at + (last - suc at) ≡ last = omega arith in get_or-drop (suc at) chunks (last - suc at) [] ∙ ap (λ n. get_or chunks n []) place

    whole_tail : whole (drop (suc at) chunks) ≡ between chunks at last ++ (get_or chunks last [] ++ whole (drop end chunks))
    whole_tail = whole_behind chunks at last (omega arith) (omega arith) ∙ ap (λ n. between chunks at last ++ (get_or chunks last [] ++ whole (drop n chunks))) (sym is)

    stored_parts : Every (λ a. IsStorable k a.0) (between chunks at last ++ (get_or chunks last [] ++ whole (drop end chunks)))
    stored_parts = subst (Every (λ a. IsStorable k a.0)) whole_tail (stored_from (suc at))

    past_mid : Every (λ (b : X × V). is_gt (place_cmp k.cmp (Some (k.start q)) (Some (k.start b.0))) ≡ false) (between chunks at last)
    past_mid = Every-left (λ (b : X × V). is_gt (place_cmp k.cmp (Some (k.start q)) (Some (k.start b.0))) ≡ false) (between chunks at last) (get_or chunks last [] ++ whole (drop end chunks))
        (subst (Every (λ (b : X × V). is_gt (place_cmp k.cmp (Some (k.start q)) (Some (k.start b.0))) ≡ false)) whole_tail (subst (λ n. IsPastStart (S p eq) chunks q n) (add-one at) past))

    spaced_tail : IsSpaced (S p eq) (whole (drop (suc at) chunks))
    spaced_tail = IsSpaced-right (S p eq) o (get_or chunks at []) (whole (drop (suc at) chunks)) (IsSpaced-right (S p eq) o (whole (take at chunks)) (get_or chunks at [] ++ whole (drop (suc at) chunks)) (subst (IsSpaced (S p eq)) (whole_around chunks at [] here) (spaced_whole p e chunks h)))

    first_of_last : (a : X × V) × (rest : List (X × V)) × (get_or chunks last [] ≡ a ∷ rest)
    first_of_last = filled_is (get_or chunks last []) (Every-at (λ (xs : List (X × V)). 0 < length xs) chunks h.filled last [] (omega arith))

    -- the last chunk starts before the query ends
    last_below : place_cmp k.cmp (Some (k.start first_of_last.0.0)) (end_place q) ≡ Less
    last_below = let b = first_of_last in lt_is _ (passed_first (starts_below (S p eq) (end_place q)) (get_or chunks last []) b.0 b.1 true b.2 (begun last [] (omega arith) (omega arith)))

    -- and so do all pairs of the first one
    pub first_begun : Every (λ (a : X × V). starts_within (S p eq) q a ≡ true) (get_or chunks at [])
    first_begun =
        let b = first_of_last in
        let taken : length (take last chunks) ≡ last = length-take-le last chunks (omega arith) in
        let ended : Every (λ (a : X × V). is_gt (place_cmp k.cmp (end_place a.0) (Some (k.start b.0.0))) ≡ false) (get_or (take last chunks) at []) =
        Every-chunk (λ (a : X × V). is_gt (place_cmp k.cmp (end_place a.0) (Some (k.start b.0.0))) ≡ false) (take last chunks)
        (before_first (S p eq) o e chunks (spaced_whole p e chunks h) last [] (omega arith) b.0 b.1 b.2) at [] (omega (arith, taken)) in
        Every-zip (λ (a : X × V). is_gt (place_cmp k.cmp (end_place a.0) (Some (k.start b.0.0))) ≡ false) (λ (a : X × V). IsStorable k a.0) (λ (a : X × V). starts_within (S p eq) q a ≡ true) (get_or chunks at [])
        (λ a apart st. ap is_lt (o.trans (Some (k.start a.0)) (Some (k.start b.0.0)) (end_place q) (lt_le_trans o (Some (k.start a.0)) (end_place a.0) (Some (k.start b.0.0)) (p.non_empty a.0 st) apart) last_below))
        (subst (Every (λ (a : X × V). is_gt (place_cmp k.cmp (end_place a.0) (Some (k.start b.0.0))) ≡ false)) (get_or-take last chunks at [] (omega arith)) ended)
        (Every-chunk (λ (a : X × V). IsStorable k a.0) chunks stored at [] here)

    -- no pair of the last one starts before the query
    pub last_past : Every (λ (b : X × V). is_gt (place_cmp k.cmp (Some (k.start q)) (Some (k.start b.0))) ≡ false) (get_or chunks last [])
    last_past =
        Every-left (λ (b : X × V). is_gt (place_cmp k.cmp (Some (k.start q)) (Some (k.start b.0))) ≡ false) (get_or chunks last []) (whole (drop end chunks))
        (Every-right (λ (b : X × V). is_gt (place_cmp k.cmp (Some (k.start q)) (Some (k.start b.0))) ≡ false) (between chunks at last) (get_or chunks last [] ++ whole (drop end chunks))
        (subst (Every (λ (b : X × V). is_gt (place_cmp k.cmp (Some (k.start q)) (Some (k.start b.0))) ≡ false)) whole_tail (subst (λ n. IsPastStart (S p eq) chunks q n) (add-one at) past)))

    starts_before : Every (λ (a : X × V). place_cmp k.cmp (Some (k.start a.0)) (end_place q) ≡ Less) (between chunks at last)
    starts_before =
        let b = first_of_last in
        Every-zip (λ (a : X × V). is_gt (place_cmp k.cmp (end_place a.0) (Some (k.start b.0.0))) ≡ false) (λ (a : X × V). IsStorable k a.0) (λ (a : X × V). place_cmp k.cmp (Some (k.start a.0)) (end_place q) ≡ Less) (between chunks at last)
        (λ a apart st. o.trans (Some (k.start a.0)) (Some (k.start b.0.0)) (end_place q) (lt_le_trans o (Some (k.start a.0)) (end_place a.0) (Some (k.start b.0.0)) (p.non_empty a.0 st) apart) last_below)
        (before_first (S p eq) o e (drop (suc at) chunks) spaced_tail (last - suc at) [] in_tail b.0 b.1 (at_last ∙ b.2))
        (Every-left (λ (a : X × V). IsStorable k a.0) (between chunks at last) (get_or chunks last [] ++ whole (drop end chunks)) stored_parts)

    all_meet : Every (λ (a : X × V). k.meets q a.0 ≡ true) (between chunks at last)
    all_meet =
        Every-zip (λ (a : X × V). IsStorable k a.0) (λ (a : X × V). (is_gt (place_cmp k.cmp (Some (k.start q)) (Some (k.start a.0))) ≡ false) × (place_cmp k.cmp (Some (k.start a.0)) (end_place q) ≡ Less)) (λ (a : X × V). k.meets q a.0 ≡ true) (between chunks at last)
        (λ a st both.
        let above : place_cmp k.cmp (Some (k.start q)) (end_place a.0) ≡ Less = le_lt_trans o (Some (k.start q)) (Some (k.start a.0)) (end_place a.0) both.0 (p.non_empty a.0 st) in
        p.meets q a.0 q_asked st ∙ (λ i. is_lt (above i) && is_lt (both.1 i)))
        (Every-left (λ (a : X × V). IsStorable k a.0) (between chunks at last) (get_or chunks last [] ++ whole (drop end chunks)) stored_parts)
        (Every-zip (λ (a : X × V). is_gt (place_cmp k.cmp (Some (k.start q)) (Some (k.start a.0))) ≡ false) (λ (a : X × V). place_cmp k.cmp (Some (k.start a.0)) (end_place q) ≡ Less) (λ (a : X × V). (is_gt (place_cmp k.cmp (Some (k.start q)) (Some (k.start a.0))) ≡ false) × (place_cmp k.cmp (Some (k.start a.0)) (end_place q) ≡ Less)) (between chunks at last) (λ a s t. (s, t)) past_mid starts_before)

    met_tail : overlapped k (whole (drop (suc at) chunks)) q ≡ between chunks at last ++ overlapped k (get_or chunks last []) q
    met_tail =
        ap (λ xs. overlapped k xs q) whole_tail ∙ overlapped_append k q (between chunks at last) (get_or chunks last [] ++ whole (drop end chunks))
        ∙ ap (λ xs. xs ++ overlapped k (get_or chunks last [] ++ whole (drop end chunks)) q) (filter_all (λ (a : X × V). k.meets q a.0) (between chunks at last) all_meet)
        ∙ ap (λ xs. between chunks at last ++ xs)
        (overlapped_append k q (get_or chunks last []) (whole (drop end chunks))
        ∙ ap (λ xs. overlapped k (get_or chunks last []) q ++ xs) (behind_missed (whole (drop end chunks)) (stored_from end) behind)
        ∙ append-nil (overlapped k (get_or chunks last []) q))

    pub met_over : overlapped k (whole chunks) q ≡ overlapped k (get_or chunks at []) q ++ (whole (take (last - (at + 1)) (drop (at + 1) chunks)) ++ overlapped k (get_or chunks last []) q)
    met_over = from_first ∙ ap (λ xs. overlapped k (get_or chunks at []) q ++ xs) (met_tail ∙ ap (λ n. whole (take (last - n) (drop n chunks)) ++ overlapped k (get_or chunks last []) q) (sym (add-one at)))
