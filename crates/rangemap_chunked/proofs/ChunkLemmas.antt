-- A list in chunks, and the chunks in which a place or a range can be.
use Rattle.std.proofs.Common.{arith, ◌≡◌, inl, inr, ℕ, zero, suc, ◌+◌, ◌-◌, ◌<◌, ◌≤◌, Bool, true, false, not, List, [], ◌∷◌, ◌++◌, length, take, drop, get_or, Option, Some, None, refl, sym, ap, ◌∙◌, subst, append_assoc, append-nil, length-drop, Ordering, Less, is_lt, is_gt}
use Rattle.std.specs.Prelude.{slice_get}
use Rattle.std.specs.List.{AllWithin}
use Rattle.std.specs.List.Sorted.{IsPartitionedBy}
use Rattle.std.specs.Cmp.{IsTotalOrder, IsEquivalence}
use Rattle.std.proofs.lemmas.Bool.{cases_Bool}
use Rattle.std.proofs.lemmas.List.{drop-drop, get_or-drop, take-append-drop, take_more}
use Rattle.rangemap_core.specs.Ranges.{RangeKind, IsStorable, covering}
use Rattle.rangemap_core.specs.engine.Endpoints.{IsPlaced, EndpointOf}
use Rattle.rangemap_core.specs.engine.Places.{place_cmp}
use Rattle.rangemap_core.specs.engine.Shape.{PassesUpTo, Shape, place_covering, IsApart, IsSpaced, starts_by}
use Rattle.rangemap_core.specs.engine.Stretch.{Every}
use Rattle.rangemap_core.proofs.JoinLemmas.{starts_rise}
use Rattle.rangemap_core.proofs.PlaceLemmas.{S, places, to_spaced, covering_is}
use Rattle.rangemap_core.proofs.StoredLemmas.{all_storable}
use Rattle.rangemap_core.proofs.PlaceOrderLemmas.{le_trans, lt_le_trans, le_lt_trans, not_lt_ge}
use Rattle.rangemap_core.proofs.ListLemmas.{Every-append, Every-right, Every-map, apart_from_all, IsSpaced-left, IsSpaced-right, IsSpaced-cross}
use Rattle.rangemap_core.proofs.SearchLemmas.{Every-at, Every-drop, around, covering_below, covering_above, covering_past}
use Rattle.rangemap_core.specs.engine.EndpointKinds.{lt_is}
use Rattle.rangemap_chunked.specs.Chunks.{AreFilled, IsClearBefore, IsClearBehind, AreChunks, IsPastBehind, IsPastStart, first_passes, chunk_below, chunk_by, starts_below, whole}
use Rattle.rangemap_chunked.proofs.BorderLemmas.{Every-left}

module _ {X : Type 0} where
  pub whole_append : (xs ys : List (List X)) → whole (xs ++ ys) ≡ whole xs ++ whole ys
  whole_append [] ys = refl
  whole_append (x ∷ xs) ys = ap (λ zs. x ++ zs) (whole_append xs ys) ∙ sym (append_assoc x (whole xs) (whole ys))

  -- the whole around a chunk
  pub whole_around : (chunks : List (List X)) (at : ℕ) (d : List X) → at < length chunks → whole chunks ≡ whole (take at chunks) ++ (get_or chunks at d ++ whole (drop (suc at) chunks))
  whole_around chunks at d l = ap whole (around chunks at d l) ∙ whole_append (take at chunks) (get_or chunks at d ∷ drop (suc at) chunks)

  pub whole_parts : (n : ℕ) (chunks : List (List X)) → whole chunks ≡ whole (take n chunks) ++ whole (drop n chunks)
  whole_parts n chunks = ap whole (sym (take-append-drop n chunks)) ∙ whole_append (take n chunks) (drop n chunks)

  pub whole_last : (xs : List (List X)) (x : List X) → whole (xs ++ x ∷ []) ≡ whole xs ++ x
  whole_last xs x = whole_append xs (x ∷ []) ∙ ap (λ ys. whole xs ++ ys) (append-nil x)

  pub whole_more : (chunks : List (List X)) (n : ℕ) (d : List X) → n < length chunks → whole (take (n + 1) chunks) ≡ whole (take n chunks) ++ get_or chunks n d
  whole_more chunks n d l = ap whole (take_more chunks n d l) ∙ whole_last (take n chunks) (get_or chunks n d)

  -- the pairs of the chunks between two
  abbrev pub between : (chunks : List (List X)) (at last : ℕ) → List X
  between chunks at last = whole (take (last - suc at) (drop (suc at) chunks))

  pub whole_behind : (chunks : List (List X)) (at last : ℕ) → at < last → last < length chunks → whole (drop (suc at) chunks) ≡ between chunks at last ++ (get_or chunks last [] ++ whole (drop (suc last) chunks))
  whole_behind chunks at last order bound =
      let dropped = length-drop (suc at) chunks in
      let here : suc at + (last - suc at) ≡ last = omega arith in
      let next : suc at + suc (last - suc at) ≡ suc last = omega arith in
      whole_around (drop (suc at) chunks) (last - suc at) [] (omega (arith, dropped))
      ∙ (λ i. between chunks at last ++ ((get_or-drop (suc at) chunks (last - suc at) [] ∙ ap (λ n. get_or chunks n []) here) i ++ whole ((drop-drop (suc (last - suc at)) (suc at) chunks ∙ ap (λ n. drop n chunks) next) i)))

  pub Every-chunk : (Q : X → Type 0) (chunks : List (List X)) → Every Q (whole chunks) → (at : ℕ) (d : List X) → at < length chunks → Every Q (get_or chunks at d)
  Every-chunk Q chunks h at d l = Every-left Q (get_or chunks at d) (whole (drop (suc at) chunks)) (Every-right Q (whole (take at chunks)) (get_or chunks at d ++ whole (drop (suc at) chunks)) (subst (Every Q) (whole_around chunks at d l) h))

  pub Every-whole : (Q : X → Type 0) (chunks : List (List X)) → Every (Every Q) chunks → Every Q (whole chunks)
  Every-whole Q [] h = tt
  Every-whole Q (x ∷ xs) h = Every-append Q x (whole xs) h.0 (Every-whole Q xs h.1)

  -- what holds of all pairs behind a place
  pub Every-further : (Q : X → Type 0) (chunks : List (List X)) (n m : ℕ) → n ≤ m → Every Q (whole (drop n chunks)) → Every Q (whole (drop m chunks))
  Every-further Q chunks n m l h =
      let sum : n + (m - n) ≡ m = omega arith in
      subst (λ ps. Every Q (whole ps)) (drop-drop (m - n) n chunks ∙ ap (λ k. drop k chunks) sum)
      (Every-right Q (whole (take (m - n) (drop n chunks))) (whole (drop (m - n) (drop n chunks))) (subst (Every Q) (whole_parts (m - n) (drop n chunks)) h))

  -- the first value of a chunk that has some
  pub filled_is : (chunk : List X) → 0 < length chunk → (a : X) × (rest : List X) × (chunk ≡ a ∷ rest)
  filled_is [] l = absurd (omega arith)
  filled_is (a ∷ rest) l = (a, rest, refl)

  pub passed_first : (test : X → Bool) (chunk : List X) (a : X) (rest : List X) (b : Bool) → chunk ≡ a ∷ rest → first_passes test (slice_get chunk 0) ≡ b → test a ≡ b
  passed_first test chunk a rest b is h = sym (ap (λ xs. first_passes test (slice_get xs 0)) is) ∙ h

module _ {G P V : Type 0} (s : Shape G P V) (o : IsTotalOrder s.order) (e : IsEquivalence s.same) where
  -- a test that the pairs of a spaced list pass up to one of them
  module _ (test : G × V → Bool) (falls : (a b : G × V) → s.order (s.start_place a.0) (s.start_place b.0) ≡ Less → test b ≡ true → test a ≡ true) where
    first_of_all : (a : G × V) (rest : List (G × V)) (chunks : List (List (G × V))) → IsSpaced s (a ∷ (rest ++ whole chunks)) → AreFilled chunks → (j : ℕ) (d : List (G × V)) → j < length chunks → first_passes test (slice_get (get_or chunks j d) 0) ≡ true → test a ≡ true
    first_of_all a rest chunks c filled j d l h =
        let b = filled_is (get_or chunks j d) (Every-at (λ chunk. 0 < length chunk) chunks filled j d l) in
        let apart : Every (IsApart s a) (get_or chunks j d) = Every-chunk (IsApart s a) chunks (Every-right (IsApart s a) rest (whole chunks) (apart_from_all s o a (rest ++ whole chunks) c)) j d l in
        let first : Every (IsApart s a) (b.0 ∷ b.1) = subst (Every (IsApart s a)) b.2 apart in
        falls a b.0 (lt_le_trans o _ _ _ c.0 first.0.before) (passed_first test (get_or chunks j d) b.0 b.1 true b.2 h)

    pub parts_chunked : (chunks : List (List (G × V))) → IsSpaced s (whole chunks) → AreFilled chunks → IsPartitionedBy (λ chunk. first_passes test (slice_get chunk 0)) chunks
    parts_chunked [] c filled i j d l m h = absurd (omega arith)
    parts_chunked (x ∷ xs) c filled zero zero d l m h = h
    parts_chunked (x ∷ xs) c filled (suc i) zero d l m h = absurd (omega arith)
    parts_chunked (x ∷ xs) c filled (suc i) (suc j) d l m h = parts_chunked xs (IsSpaced-right s o x (whole xs) c) filled.1 i j d (omega arith) (omega arith) h
    parts_chunked (x ∷ xs) c filled zero (suc j) d l m h =
        let a = filled_is x filled.0 in
        ap (λ ys. first_passes test (slice_get ys 0)) a.2 ∙ (first_of_all a.0 a.1 xs (subst (λ ys. IsSpaced s (ys ++ whole xs)) a.2 c) filled.1 j d (omega arith) h)

  by_falls : (q : P) (a b : G × V) → s.order (s.start_place a.0) (s.start_place b.0) ≡ Less → starts_by s q b ≡ true → starts_by s q a ≡ true
  by_falls q a b l h = elim (cases_Bool (is_lt (s.order q (s.start_place a.0)))) [
    | inl below ↦ let far : s.order q (s.start_place b.0) ≡ Less = o.trans q (s.start_place a.0) (s.start_place b.0) (lt_is _ below) l in grind (arith, far, h)
    | inr from ↦ grind (arith, from)
  ]

  below_falls : (q : P) (a b : G × V) → s.order (s.start_place a.0) (s.start_place b.0) ≡ Less → starts_below s q b ≡ true → starts_below s q a ≡ true
  below_falls q a b l h = ap is_lt (o.trans (s.start_place a.0) (s.start_place b.0) q l (lt_is _ h))

  pub by_chunked : (q : P) (chunks : List (List (G × V))) → IsSpaced s (whole chunks) → AreFilled chunks → IsPartitionedBy (chunk_by s q) chunks
  by_chunked q = parts_chunked (starts_by s q) (by_falls q)

  pub below_chunked : (q : P) (chunks : List (List (G × V))) → IsSpaced s (whole chunks) → AreFilled chunks → IsPartitionedBy (chunk_below s q) chunks
  below_chunked q = parts_chunked (starts_below s q) (below_falls q)

  -- ---- before a chunk whose first pair passes a test

  spaced_around : (chunks : List (List (G × V))) → IsSpaced s (whole chunks) → (at : ℕ) (d : List (G × V)) → at < length chunks → IsSpaced s (whole (take at chunks) ++ (get_or chunks at d ++ whole (drop (suc at) chunks)))
  spaced_around chunks c at d l = subst (IsSpaced s) (whole_around chunks at d l) c

  -- pairs of earlier chunks end by the start of the first one of a chunk
  pub before_first : (chunks : List (List (G × V))) → IsSpaced s (whole chunks) → (at : ℕ) (d : List (G × V)) → at < length chunks → (a : G × V) (rest : List (G × V)) → get_or chunks at d ≡ a ∷ rest → Every (λ b. is_gt (s.order (s.end_place b.0) (s.start_place a.0)) ≡ false) (whole (take at chunks))
  before_first chunks c at d l a rest is =
      Every-map (λ b. Every (IsApart s b) ((a ∷ rest) ++ whole (drop (suc at) chunks))) _ (whole (take at chunks)) (λ b h. h.0.before)
      (IsSpaced-cross s o (whole (take at chunks)) ((a ∷ rest) ++ whole (drop (suc at) chunks)) (subst (λ chunk. IsSpaced s (whole (take at chunks) ++ (chunk ++ whole (drop (suc at) chunks)))) is (spaced_around chunks c at d l)))

  module _ (chunks : List (List (G × V))) (c : IsSpaced s (whole chunks)) (filled : AreFilled chunks) (n : ℕ) (bound : n ≤ length chunks) where
    first_at : (at : ℕ) → at < length chunks → (a : G × V) × (rest : List (G × V)) × (get_or chunks at [] ≡ a ∷ rest)
    first_at at l = filled_is (get_or chunks at []) (Every-at (λ chunk. 0 < length chunk) chunks filled at [] l)

    -- chunks that start before the range
    pub clear_before : (r : G) (at : ℕ) → at ≡ n - 1 → PassesUpTo (chunk_below s (s.start_place r)) chunks n → IsClearBefore s chunks r at
    clear_before r zero is point = tt
    clear_before r (suc m) is point =
        let a = first_at (suc m) (omega arith) in
        let less : s.order (s.start_place a.0.0) (s.start_place r) ≡ Less = lt_is _ (passed_first (starts_below s (s.start_place r)) (get_or chunks (suc m) []) a.0 a.1 true a.2 (point.0 (suc m) [] (omega arith) (omega arith))) in
        Every-map _ _ (whole (take (suc m) chunks)) (λ b h. le_lt_trans o _ _ _ h less) (before_first chunks c (suc m) [] (omega arith) a.0 a.1 a.2)

    -- all pairs of a chunk pass what its first one passes
    pairs_of : (Q : G × V → Type 0) → ((a b : G × V) → is_gt (s.order (s.start_place a.0) (s.start_place b.0)) ≡ false → Q a → Q b) → (chunk : List (G × V)) → IsSpaced s chunk → (a : G × V) (rest : List (G × V)) → chunk ≡ a ∷ rest → Q a → Every Q chunk
    pairs_of Q rises chunk spaced a rest is h = subst (Every Q) (sym is) (Every-map _ Q (a ∷ rest) (λ b l. rises a b l h) (starts_rise s o e a rest (subst (IsSpaced s) is spaced)))

    spaced_at : (at : ℕ) (d : List (G × V)) → at < length chunks → IsSpaced s (get_or chunks at d)
    spaced_at at d l = IsSpaced-left s o (get_or chunks at d) (whole (drop (suc at) chunks)) (IsSpaced-right s o (whole (take at chunks)) (get_or chunks at d ++ whole (drop (suc at) chunks)) (spaced_around chunks c at d l))

    all_behind : (test : G × V → Bool) (Q : G × V → Type 0) → ((a b : G × V) → is_gt (s.order (s.start_place a.0) (s.start_place b.0)) ≡ false → Q a → Q b) → ((a : G × V) → test a ≡ false → Q a) → AllWithin (λ chunk. first_passes test (slice_get chunk 0) ≡ false) chunks n (length chunks) → Every Q (whole (drop n chunks))
    all_behind test Q rises from failed = Every-whole Q (drop n chunks) (Every-drop (Every Q) chunks n (λ at d l m.
        let a = filled_is (get_or chunks at d) (Every-at (λ chunk. 0 < length chunk) chunks filled at d m) in
        pairs_of Q rises (get_or chunks at d) (spaced_at at d m) a.0 a.1 a.2 (from a.0 (passed_first test (get_or chunks at d) a.0 a.1 false a.2 (failed at d l m)))))

    -- chunks that start behind a place
    pub clear_behind : (q : P) → AllWithin (λ xs. chunk_by s q xs ≡ false) chunks n (length chunks) → Every (λ b. s.order q (s.start_place b.0) ≡ Less) (whole (drop n chunks))
    clear_behind q failed = all_behind (starts_by s q) (λ b. s.order q (s.start_place b.0) ≡ Less) (λ a b rise h. lt_le_trans o _ _ _ h rise) (λ a h. grind (arith, h)) failed

    -- chunks that start there or behind it
    pub past_behind : (q : P) → AllWithin (λ xs. chunk_below s q xs ≡ false) chunks n (length chunks) → Every (λ b. is_gt (s.order q (s.start_place b.0)) ≡ false) (whole (drop n chunks))
    past_behind q failed = all_behind (starts_below s q) (λ b. is_gt (s.order q (s.start_place b.0)) ≡ false) (λ a b rise h. le_trans o _ _ _ h rise) (λ a h. not_lt_ge o _ _ h) failed

    covering_before : (xs ys : List (G × V)) (q : P) → place_covering s ys q ≡ None → place_covering s (xs ++ ys) q ≡ place_covering s xs q
    covering_before [] ys q h = h
    covering_before (a ∷ xs) ys q h = grind (arith, covering_before xs ys q h)

    -- the last chunk that starts by the place alone can have it
    pub covering_part : (q : P) → PassesUpTo (chunk_by s q) chunks n → (at : ℕ) → at ≡ n - 1 → (l : at < length chunks) (d : List (G × V)) → place_covering s (whole chunks) q ≡ place_covering s (get_or chunks at d) q
    covering_part q point at is l d =
        ap (λ xs. place_covering s xs q) (whole_around chunks at d l)
        ∙ covering_past s o (whole (take at chunks)) (get_or chunks at d ++ whole (drop (suc at) chunks)) q (before at is l)
        ∙ covering_before (get_or chunks at d) (whole (drop (suc at) chunks)) q
        (covering_below s o (whole (drop (suc at) chunks)) q (Every-further (λ b. s.order q (s.start_place b.0) ≡ Less) chunks n (suc at) (omega arith) (clear_behind q point.1)))
      where
        before : (at : ℕ) → at ≡ n - 1 → at < length chunks → place_covering s (whole (take at chunks)) q ≡ None
        before zero is l = refl
        before (suc m) is l =
            let a = first_at (suc m) l in
            let by : is_gt (s.order (s.start_place a.0.0) q) ≡ false = not_lt_ge o _ _ (let t : starts_by s q a.0 ≡ true = passed_first (starts_by s q) (get_or chunks (suc m) []) a.0 a.1 true a.2 (point.0 (suc m) [] (omega arith) (omega arith)) in grind (arith, t)) in
            covering_above s o (whole (take (suc m) chunks)) q (Every-map _ _ (whole (take (suc m) chunks)) (λ b h. le_trans o _ _ _ h by) (before_first chunks c (suc m) [] l a.0 a.1 a.2))

-- what one look at the first pair of a chunk tells
pub by_is : {G P V : Type 0} (s : Shape G P V) (p : P) (chunk : List (G × V)) (a : G × V) (r : Ordering) → Some a ≡ slice_get chunk 0 → s.order p (s.start_place a.0) ≡ r → not (is_lt r) ≡ chunk_by s p chunk
by_is s p chunk a r first is = ap (λ t. not (is_lt t)) (sym is) ∙ ap (first_passes (starts_by s p)) first

-- ---- by keys

module _ {K X V : Type 0} {k : RangeKind K X} {end_place : X → Option K} {chunk : EndpointOf X → EndpointOf X → X} (p : IsPlaced k end_place chunk) {eq : V → V → Bool} (e : IsEquivalence eq) (chunks : List (List (X × V))) (h : AreChunks k eq chunks) where
  pub spaced_whole : IsSpaced (S p eq) (whole chunks)
  spaced_whole = to_spaced p eq (whole chunks) h.canonical

  -- a search over the first pairs of chunks finds where they no longer pass
  pub by_parted : (q : Option K) → IsPartitionedBy (chunk_by (S p eq) q) chunks
  by_parted q = by_chunked (S p eq) (places p eq) e q chunks spaced_whole h.filled

  pub below_parted : (q : Option K) → IsPartitionedBy (chunk_below (S p eq) q) chunks
  below_parted q = below_chunked (S p eq) (places p eq) e q chunks spaced_whole h.filled

  -- a key before which no chunk starts has no range
  pub no_chunk : (x : K) → k.is_key x → (n : ℕ) → n ≡ 0 → PassesUpTo (chunk_by (S p eq) (Some x)) chunks n → covering k (whole chunks) x ≡ None
  no_chunk x key n none point =
      let above : Every (λ (b : X × V). place_cmp k.cmp (Some x) (Some (k.start b.0)) ≡ Less) (whole chunks) =
      subst (λ m. Every (λ (b : X × V). place_cmp k.cmp (Some x) (Some (k.start b.0)) ≡ Less) (whole (drop m chunks))) none
      (clear_behind (S p eq) (places p eq) e chunks spaced_whole h.filled n (omega arith) (Some x) point.1) in
      covering_is p eq (whole chunks) x (all_storable k eq (whole chunks) h.canonical) key
      ∙ covering_below (S p eq) (places p eq) (whole chunks) (Some x) above

  module _ (x : K) (key : k.is_key x) (n : ℕ) (bound : n ≤ length chunks) (point : PassesUpTo (chunk_by (S p eq) (Some x)) chunks n) (at : ℕ) (is : at ≡ n - 1) where
    pub found_chunk : (xs : List (X × V)) → at < length chunks → xs ≡ get_or chunks at xs → covering k (whole chunks) x ≡ covering k xs x
    found_chunk xs l found =
        let stored = all_storable k eq (whole chunks) h.canonical in
        covering_is p eq (whole chunks) x stored key
        ∙ covering_part (S p eq) (places p eq) e chunks spaced_whole h.filled n bound (Some x) point at is l xs
        ∙ ap (λ ys. place_covering (S p eq) ys (Some x)) (sym found)
        ∙ sym (covering_is p eq xs x (subst (Every (λ a. IsStorable k a.0)) (sym found) (Every-chunk (λ a. IsStorable k a.0) chunks stored at xs l)) key)

  -- where a range lies
  module _ (r : X) (n : ℕ) (bound : n ≤ length chunks) where
    pub starts_clear : PassesUpTo (chunk_below (S p eq) (Some (k.start r))) chunks n → (at : ℕ) → at ≡ n - 1 → IsClearBefore (S p eq) chunks r at
    starts_clear point at is = clear_before (S p eq) (places p eq) e chunks spaced_whole h.filled n bound r at is point

    pub starts_past : PassesUpTo (chunk_below (S p eq) (Some (k.start r))) chunks n → (at : ℕ) → at ≡ n - 1 → IsPastStart (S p eq) chunks r (at + 1)
    starts_past point at is = Every-further (λ b. is_gt (place_cmp k.cmp (Some (k.start r)) (Some (k.start b.0))) ≡ false) chunks n (at + 1) (omega arith) (past_behind (S p eq) (places p eq) e chunks spaced_whole h.filled n bound (Some (k.start r)) point.1)

    pub ends_clear : AllWithin (λ xs. chunk_by (S p eq) (end_place r) xs ≡ false) chunks n (length chunks) → IsClearBehind (S p eq) chunks r n
    ends_clear failed = clear_behind (S p eq) (places p eq) e chunks spaced_whole h.filled n bound (end_place r) failed

    pub ends_past : AllWithin (λ xs. chunk_below (S p eq) (end_place r) xs ≡ false) chunks n (length chunks) → IsPastBehind (S p eq) chunks r n
    ends_past failed = past_behind (S p eq) (places p eq) e chunks spaced_whole h.filled n bound (end_place r) failed

-- ---- the last chunk

module _ {X : Type 0} (chunks rest : List (List X)) (chunk : List X) (parts_are : chunks ≡ rest ++ chunk ∷ []) where
  pub last_whole : (front back left : List X) (item : X) → back ≡ [] → chunk ≡ left ++ item ∷ [] → front ++ (whole chunks ++ back) ≡ (front ++ (whole rest ++ left)) ++ item ∷ []
  last_whole front back left item none is =
      (λ i. front ++ (whole (parts_are i) ++ none i)) ∙ ap (λ xs. front ++ xs) (append-nil (whole (rest ++ chunk ∷ [])) ∙ whole_last rest chunk ∙ ap (λ xs. whole rest ++ xs) is ∙ sym (append_assoc (whole rest) left (item ∷ [])))
      ∙ sym (append_assoc front (whole rest ++ left) (item ∷ []))

  pub last_filled : AreFilled chunks → AreFilled rest
  last_filled h = Every-left (λ (xs : List X). 0 < length xs) rest (chunk ∷ []) (subst AreFilled parts_are h)
