-- What is read of what was written, where the reader gives back equal parts.
use Rattle.std.proofs.Common.{◌≡◌, ℕ, zero, suc, Bool, true, false, List, [], ◌∷◌, ◌++◌, take, Option, Some, Result, Ok, Err, Equal, refl, sym, ap, subst, ◌∙◌, is_le, true≢false}
use Rattle.std.specs.Prelude.{⊤}
use Rattle.std.specs.Cmp.{IsEquivalence}
use Rattle.std.specs.List.{AllZip, slice_get}
use Rattle.std.specs.Cmp.Derive.{both_true}
use Rattle.serde_json.specs.declared.value.Value.{Value}
use Rattle.rangemap_formats.specs.declared.json.Form.{Form}
use Rattle.rangemap_formats.specs.declared.json.Form.TheVariants.{Any, Canonical}
use Rattle.rangemap_formats.specs.declared.json.Part.{Part}
use Rattle.rangemap_formats.specs.declared.json.Part.TheVariants.{Start, End}
use Rattle.rangemap_formats.specs.declared.json.ReadError.{ReadError}
use Rattle.rangemap_formats.specs.declared.json.ReadError.TheVariants.{NotAList, BadEntry, BadKey, BadValue, EmptyRange, OutOfMemory, OutOfOrder, Uncoalesced}
use Rattle.rangemap_core.specs.Ranges.{RangeKind, AreStorable, IsStorable, IsCanonical, nothing, override_all, same_pairs, unit_eq}
use Rattle.rangemap_core.specs.laws.Comparisons.{same_pairs_equiv}
use Rattle.rangemap_formats.specs.laws.Entries.{map_end, map_start, map_value, set_end, set_start}
use Rattle.rangemap_core.specs.engine.Endpoints.{EndpointOf, IsPlaced}
use Rattle.rangemap_core.specs.engine.Places.{place_cmp}
use Rattle.rangemap_core.specs.engine.Stretch.{Every}
use Rattle.rangemap_formats.specs.Entries.{Follows, IsUnambiguous}
use Rattle.rangemap_formats.specs.Json.{Accepts, EndsWith, IsBadKey, IsBadValue, IsEmptyEntry, IsFirstFault, IsForm, IsMisshaped, IsOutOfOrder, IsRead, IsReading, IsRefusedForMemoryAlone, IsUncoalesced, IsWritten, Reader, ReadsAlike, RefusesToRead, KeysReadBack, ReadsBack, Writer, map_entry, map_reader, map_writer, set_reader, set_writer}
use Rattle.rangemap_formats.proofs.LastPairLemmas.{last_storable, same_last}
use Rattle.rangemap_core.proofs.StoredLemmas.{all_storable}
use Rattle.rangemap_core.proofs.EqualListLemmas.{IsSamePair, canonical_by_same, same_gap, to_same}
use Rattle.rangemap_core.proofs.OwnPairLemmas.{own}
use Rattle.rangemap_core.proofs.UniquenessLemmas.{canon_unique}

-- what is tied to an item
tied : {A B : Type 0} (R : A → B → Type 0) (xs : List A) (ys : List B) (at : ℕ) (y : B) → AllZip R xs ys → slice_get ys at ≡ Some y → (x : A) × (slice_get xs at ≡ Some x) × R x y
tied R [] [] at y h there = absurd cc
tied R [] (b ∷ ys) at y h there = absurd h
tied R (a ∷ xs) [] at y h there = absurd h
tied R (a ∷ xs) (b ∷ ys) zero y h there = let is : b ≡ y = cc in (a, refl, subst (R a) is h.0)
tied R (a ∷ xs) (b ∷ ys) (suc at) y h there = tied R xs ys at y h.1 there

module _ {K X V : Type 0} (k : RangeKind K X) (eq : V → V → Bool) where
  -- in a canonical list an item may stand behind the one before it
  follows_at : (xs : List (X × V)) (at : ℕ) (front : List (X × V)) (last a : X × V) → IsCanonical k eq xs → take at xs ≡ front ++ last ∷ [] → slice_get xs at ≡ Some a → IsStorable k last.0 × Follows k eq last a
  follows_at [] at front last a c t there = absurd cc
  follows_at (x ∷ xs) zero [] last a c t there = absurd cc
  follows_at (x ∷ xs) zero (f ∷ front) last a c t there = absurd cc
  follows_at (x ∷ []) (suc at) [] last a c t there = absurd cc
  follows_at (x ∷ y ∷ xs) (suc zero) [] last a c t there =
      let is_last : x ≡ last = cc in
      let is_next : y ≡ a = cc in
      (subst (λ (q : X × V). IsStorable k q.0) is_last c.0, subst (λ (q : X × V). Follows k eq q a) is_last (subst (λ (q : X × V). Follows k eq x q) is_next (record { before = c.1.0; differs = c.1.1 })))
  follows_at (x ∷ y ∷ xs) (suc (suc at)) [] last a c t there = absurd cc
  follows_at (x ∷ xs) (suc at) (f ∷ front) last a c t there = follows_at xs at front last a c.2 (cc) there

  stored_at : (xs : List (X × V)) (at : ℕ) (a : X × V) → Every (λ b. IsStorable k b.0) xs → slice_get xs at ≡ Some a → IsStorable k a.0
  stored_at [] at a c there = absurd cc
  stored_at (x ∷ xs) zero a c there = let is : x ≡ a = cc in subst (λ (q : X × V). IsStorable k q.0) is c.0
  stored_at (x ∷ xs) (suc at) a c there = stored_at xs at a c.1 there

-- the forms, by the ranges of the pairs
module _ {K X V F : Type 0} (k : RangeKind K X) {end_place : X → Option K} {part : EndpointOf X → EndpointOf X → X} (p : IsPlaced k end_place part) (eq : V → V → Bool) (e : IsEquivalence eq) (r : Reader K V F) where
  every : (bs : List (X × V)) → AreStorable k bs → Every (λ b. IsStorable k b.0) bs
  every [] s = tt
  every (b ∷ bs) s = (s.0, every bs s.1)

  storable_by : (form : Form) (bs : List (X × V)) → Accepts k r eq form bs → Every (λ b. IsStorable k b.0) bs
  storable_by Any bs s = every bs s
  storable_by Canonical bs s = all_storable _ eq bs s

  all_stored : (bs : List (X × V)) → Every (λ b. IsStorable k b.0) bs → AreStorable k bs
  all_stored [] s = tt
  all_stored (b ∷ bs) s = (s.0, all_stored bs s.1)

  pub accepts_canonical : (form : Form) (bs : List (X × V)) → IsCanonical k eq bs → Accepts k r eq form bs
  accepts_canonical Any bs c = all_stored bs (all_storable _ eq bs c)
  accepts_canonical Canonical bs c = c

module _ {K X V E F : Type 0} (k : RangeKind K X) {end_place : X → Option K} {part : EndpointOf X → EndpointOf X → X} (p : IsPlaced k end_place part) (eq : V → V → Bool) (e : IsEquivalence eq)
    (w : Writer K V E) (r : Reader K V F)
    (shapes : (v s t c : Value) → w.shape v s t c → r.shape v s t c)
    (one_start : (v s t c s' t' c' : Value) → w.shape v s t c → r.shape v s' t' c' → s ≡ s')
    (one_end : (v s t c s' t' c' : Value) → w.shape v s t c → r.shape v s' t' c' → t ≡ t')
    (keys : KeysReadBack k w.key r.key)
    (values : (x : V) (v s t c s' t' c' : Value) → w.shape v s t c → w.value x (Ok c) → r.shape v s' t' c' → (answer : Result V F) → r.value c' answer → (y : V) × (answer ≡ Ok y) × (eq x y ≡ true)) where
  module _ (a : X × V) (v : Value) (h : IsWritten k w a v) (stored : IsStorable k a.0) where
    start_back : (s t c : Value) → r.shape v s t c → (answer : Result K F) → r.key s answer → (y : K) × (answer ≡ Ok y) × (k.cmp (k.start a.0) y ≡ Equal)
    start_back s t c g answer n = keys (k.start a.0) stored.start_is_key s (subst (λ u. w.key (k.start a.0) (Ok u)) (one_start v h.start h.end h.value s t c h.shape g) h.start_is) answer n

    end_back : (s t c : Value) → r.shape v s t c → (answer : Result K F) → r.key t answer → (y : K) × (answer ≡ Ok y) × (k.cmp (k.end a.0) y ≡ Equal)
    end_back s t c g answer n = keys (k.end a.0) stored.end_is_key t (subst (λ u. w.key (k.end a.0) (Ok u)) (one_end v h.start h.end h.value s t c h.shape g) h.end_is) answer n

    value_back : (s t c : Value) → r.shape v s t c → (answer : Result V F) → r.value c answer → (y : V) × (answer ≡ Ok y) × (eq a.1 y ≡ true)
    value_back s t c g answer n = values a.1 v h.start h.end h.value s t c h.shape h.value_is g answer n

    -- what is read is equal
    read_back : (b : X × V) → IsRead k r b v → IsSamePair k eq a b
    read_back b n =
        let s = start_back n.start n.end n.value n.shape (Ok (k.start b.0)) n.start_is in
        let t = end_back n.start n.end n.value n.shape (Ok (k.end b.0)) n.end_is in
        let u = value_back n.start n.end n.value n.shape (Ok b.1) n.value_is in
        let is_s : s.0 ≡ k.start b.0 = let h = s.1 in cc in
        let is_t : t.0 ≡ k.end b.0 = let h = t.1 in cc in
        let is_u : u.0 ≡ b.1 = let h = u.1 in cc in
        record {
          starts = subst (λ y. k.cmp (k.start a.0) y ≡ Equal) is_s s.2;
          ends = subst (λ y. k.cmp (k.end a.0) y ≡ Equal) is_t t.2;
          values = subst (λ y. eq a.1 y ≡ true) is_u u.2;
        }

    no_refusal : {A : Type 0} (fault : F) (y : A) → Err fault ≡ Ok y → ⊥
    no_refusal fault y h = cc

    shaped : IsMisshaped k r v → ⊥
    shaped n = n h.start h.end h.value (shapes v h.start h.end h.value h.shape)

    no_bad_key : (part : Part) (fault : F) → IsBadKey k r part fault v → ⊥
    no_bad_key Start fault n = let b = start_back n.0 n.1 n.2 n.3 (Err fault) n.4 in no_refusal fault b.0 b.1
    no_bad_key End fault n = let b = end_back n.0 n.1 n.2 n.3 (Err fault) n.6 in no_refusal fault b.0 b.1

    no_bad_value : (fault : F) → IsBadValue k r fault v → ⊥
    no_bad_value fault n = let b = value_back n.0 n.1 n.2 n.3 (Err fault) n.8 in no_refusal fault b.0 b.1

    not_empty : IsEmptyEntry k r v → ⊥
    not_empty n =
        let s = start_back n.0 n.1 n.2 n.3 (Ok n.4) n.7 in
        let t = end_back n.0 n.1 n.2 n.3 (Ok n.5) n.8 in
        let is_s : s.0 ≡ n.4 = let h = s.1 in cc in
        let is_t : t.0 ≡ n.5 = let h = t.1 in cc in
        n.10 a.0 (subst (λ y. k.cmp (k.start a.0) y ≡ Equal) is_s s.2) (subst (λ y. k.cmp (k.end a.0) y ≡ Equal) is_t t.2) stored.non_empty

  -- pairs read of a beginning of what was written
  same_front : (ps bs : List (X × V)) (vs : List Value) (at : ℕ) → Every (λ b. IsStorable k b.0) ps → AllZip (IsWritten k w) ps vs → AllZip (IsRead k r) bs (take at vs) → same_pairs k eq (take at ps) bs ≡ true
  same_front ps [] vs zero s h n = refl
  same_front ps (b ∷ bs) vs zero s h n = absurd n
  same_front [] [] [] (suc at) s h n = refl
  same_front [] (b ∷ bs) [] (suc at) s h n = absurd n
  same_front [] bs (v ∷ vs) (suc at) s h n = absurd h
  same_front (a ∷ ps) bs [] (suc at) s h n = absurd h
  same_front (a ∷ ps) [] (v ∷ vs) (suc at) s h n = absurd n
  same_front (a ∷ ps) (b ∷ bs) (v ∷ vs) (suc at) s h n = both_true (to_same k eq a b (read_back a v h.0 s.0 b n.0)) (same_front ps bs vs at s.1 h.1 n.1)

  same_all : (ps bs : List (X × V)) (vs : List Value) → Every (λ b. IsStorable k b.0) ps → AllZip (IsWritten k w) ps vs → AllZip (IsRead k r) bs vs → same_pairs k eq ps bs ≡ true
  same_all [] [] [] s h n = refl
  same_all [] (b ∷ bs) [] s h n = absurd n
  same_all [] bs (v ∷ vs) s h n = absurd h
  same_all (a ∷ ps) bs [] s h n = absurd h
  same_all (a ∷ ps) [] (v ∷ vs) s h n = absurd n
  same_all (a ∷ ps) (b ∷ bs) (v ∷ vs) s h n = both_true (to_same k eq a b (read_back a v h.0 s.0 b n.0)) (same_all ps bs vs s.1 h.1 n.1)

  -- the list that is read equals the one that was written
  pub round_trip : (ps : List (X × V)) (v : Value) (form : Form) (list : List (X × V)) → IsCanonical k eq ps → IsForm k w ps v → IsReading k r eq form v list → same_pairs k eq ps list ≡ true
  round_trip ps v form list c f n =
      let one : f.entries ≡ n.entries = let g = f.is_list in let h = n.is_list in cc in
      let bs = n.inserted.pairs in
      let same : same_pairs k eq ps bs ≡ true = same_all ps bs n.entries (all_storable _ eq ps c) (subst (AllZip (IsWritten k w) ps) one f.written) n.inserted.read in
      let d = canonical_by_same k p eq e ps bs c (storable_by k p eq e r form bs n.inserted.accepted) same in
      let again = canon_unique k p eq e (override_all k nothing bs) bs list (own k p eq e bs d) n.inserted.canon in
      let q = same_pairs_equiv k p.total e in
      q.congr ps bs list same ∙ again

  module _ (ps : List (X × V)) (v : Value) (form : Form) (accepted : Accepts k r eq form ps) (f : IsForm k w ps v) where
    -- the pair that was written of the entry at fault
    at_fault : (at : ℕ) (fault : List (X × V) → Value → Type 0) (n : IsFirstFault k r eq form v at fault) → (a : X × V) × (slice_get ps at ≡ Some a) × IsWritten k w a n.entry × IsStorable k a.0
    at_fault at fault n =
        let one : f.entries ≡ n.entries = let g = f.is_list in let h = n.is_list in cc in
        let t = tied (IsWritten k w) ps n.entries at n.entry (subst (AllZip (IsWritten k w) ps) one f.written) n.is_there in
        (t.0, t.1, t.2, stored_at k eq ps at t.0 (storable_by k p eq e r form ps accepted) t.1)

    -- the twins of the entry at fault and of the pair before it
    module _ (at : ℕ) (fault : List (X × V) → Value → Type 0) (n : IsFirstFault k r eq form v at fault) (is : form ≡ Canonical) (pair last : X × V) (read : IsRead k r pair n.entry) (stored : IsStorable k pair.0) (at_end : EndsWith n.before last) where
      twins : (a b : X × V) × Follows k eq b a × IsSamePair k eq a pair × IsSamePair k eq b last × (place_cmp k.cmp (end_place b.0) (Some (k.start a.0)) ≡ place_cmp k.cmp (end_place last.0) (Some (k.start pair.0))) × IsStorable k a.0 × IsStorable k b.0 × IsStorable k last.0
      twins =
          let one : f.entries ≡ n.entries = let g = f.is_list in let h = n.is_list in cc in
          let a = at_fault at fault n in
          let same = same_front ps n.before n.entries at (storable_by k p eq e r form ps accepted) (subst (AllZip (IsWritten k w) ps) one f.written) n.read in
          let b = same_last k eq at_end.0 last (take at ps) (subst (λ (xs : List (X × V)). same_pairs k eq (take at ps) xs ≡ true) at_end.1 same) in
          let c : IsCanonical k eq ps = subst (λ g. Accepts k r eq g ps) is accepted in
          let follows = follows_at k eq ps at b.1.0 b.0 a.0 c b.1.1 a.1 in
          let can : IsCanonical k eq n.before = subst (λ g. Accepts k r eq g n.before) is n.accepted in
          let s_last = last_storable k eq at_end.0 last (subst (IsCanonical k eq) at_end.1 can) in
          let back = read_back a.0 n.entry a.2 a.3 pair read in (
            a.0,
            b.0,
            follows.1,
            back,
            b.2,
            same_gap k p eq e b.0.0 a.0.0 last.0 pair.0 follows.0 s_last b.2.ends back.starts,
            a.3,
            follows.0,
            s_last,
          )

      in_order : (k.IsBefore last.0 pair.0 → ⊥) → ⊥
      in_order h =
          let t = twins in
          h (p.before_from last.0 pair.0 t.8 stored (sym (ap is_le t.5) ∙ p.before t.1.0 t.0.0 t.7 t.6 t.2.before))

      coalesced : k.Touches last.0 pair.0 → eq last.1 pair.1 ≡ true → ⊥
      coalesced h j =
          let t = twins in
          let apart : eq t.1.1 t.0.1 ≡ false = t.2.differs (p.touches_from t.1.0 t.0.0 t.7 t.6 (t.5 ∙ p.touches last.0 pair.0 t.8 stored h)) in
          true≢false (
          sym j
          ∙ e.symm last.1 pair.1
          ∙ sym (e.congr t.0.1 pair.1 last.1 t.3.values)
          ∙ e.symm t.0.1 last.1
          ∙ sym (e.congr t.1.1 last.1 t.0.1 t.4.values)
          ∙ apart
          )

    -- nothing is refused but for want of memory
    pub refused : (error : ReadError F) → RefusesToRead k r eq form v error → error ≡ OutOfMemory
    refused NotAList h = let g = f.is_list in absurd cc
    refused (BadEntry at) n = let a = at_fault at (λ before entry. IsMisshaped k r entry) n in absurd (shaped a.0 n.entry a.2 a.3 n.fails)
    refused (BadKey at part fault) n = let a = at_fault at (λ before entry. IsBadKey k r part fault entry) n in absurd (no_bad_key a.0 n.entry a.2 a.3 part fault n.fails)
    refused (BadValue at fault) n = let a = at_fault at (λ before entry. IsBadValue k r fault entry) n in absurd (no_bad_value a.0 n.entry a.2 a.3 fault n.fails)
    refused (EmptyRange at) n = let a = at_fault at (λ before entry. IsEmptyEntry k r entry) n in absurd (not_empty a.0 n.entry a.2 a.3 n.fails)
    refused OutOfMemory n = refl
    refused (OutOfOrder at) n = let m = n.1 in let q = m.fails in absurd (in_order at (IsOutOfOrder k r eq) m n.0 q.0 q.1 q.2 q.3 q.4 q.5)
    refused (Uncoalesced at) n = let m = n.1 in let q = m.fails in absurd (coalesced at (IsUncoalesced k r eq) m n.0 q.0 q.1 q.2 q.3 q.4 q.6 q.7)

-- ---- maps and sets

module _ {K X V E F : Type 0} (k : RangeKind K X) {end_place : X → Option K} {part : EndpointOf X → EndpointOf X → X} (p : IsPlaced k end_place part) (eq : V → V → Bool) (e : IsEquivalence eq)
    (write_key : K → Result Value E → Type 0) (write_value : V → Result Value E → Type 0)
    (read_key : Value → Result K F → Type 0) (read_value : Value → Result V F → Type 0)
    (keys : KeysReadBack k write_key read_key) (values : ReadsBack (λ x y. eq x y ≡ true) write_value read_value)
    (ps : List (X × V)) (v : Value) (form : Form) (c : IsCanonical k eq ps) (f : IsForm k (map_writer write_key write_value) ps v) where
  values_back : (x : V) (v s t c s' t' c' : Value) → map_entry v s t c → write_value x (Ok c) → map_entry v s' t' c' → (answer : Result V F) → read_value c' answer → (y : V) × (answer ≡ Ok y) × (eq x y ≡ true)
  values_back x v s t c s' t' c' g h j answer n = values x c (h) answer (subst (λ u. read_value u answer) (sym (map_value v s t c s' t' c' g j)) n)

  pub map_round_trip : (list : List (X × V)) → IsReading k (map_reader read_key read_value) eq form v list → same_pairs k eq ps list ≡ true
  map_round_trip list n =
      round_trip k p eq e (map_writer write_key write_value) (map_reader read_key read_value) (λ v s t c h. h) map_start map_end keys values_back ps v form list c f n

  pub map_refused : (error : ReadError F) → RefusesToRead k (map_reader read_key read_value) eq form v error → error ≡ OutOfMemory
  map_refused error n =
      refused k p eq e (map_writer write_key write_value) (map_reader read_key read_value) (λ v s t c h. h) map_start map_end keys values_back ps v form
      (accepts_canonical k p eq e (map_reader read_key read_value) form ps c) f error n

module _ {K X E F : Type 0} (k : RangeKind K X) {end_place : X → Option K} {part : EndpointOf X → EndpointOf X → X} (p : IsPlaced k end_place part) (e : IsEquivalence (unit_eq k))
    (write_key : K → Result Value E → Type 0) (read_key : Value → Result K F → Type 0) (keys : KeysReadBack k write_key read_key)
    (ps : List (X × ⊤)) (v : Value) (form : Form) (c : IsCanonical k (unit_eq k) ps) (f : IsForm k (set_writer write_key) ps v) where
  pub set_round_trip : (list : List (X × ⊤)) → IsReading k (set_reader read_key) (unit_eq k) form v list → same_pairs k (unit_eq k) ps list ≡ true
  set_round_trip list n =
      round_trip k p (unit_eq k) e (set_writer write_key) (set_reader read_key) (λ v s t c h. h) set_start set_end keys
      (λ x v s t c s' t' c' g h j answer n. (tt, n, refl)) ps v form list c f n

  pub set_refused : (error : ReadError F) → RefusesToRead k (set_reader read_key) (unit_eq k) form v error → error ≡ OutOfMemory
  set_refused error n =
      refused k p (unit_eq k) e (set_writer write_key) (set_reader read_key) (λ v s t c h. h) set_start set_end keys
      (λ x v s t c s' t' c' g h j answer n. (tt, n, refl)) ps v form (accepts_canonical k p (unit_eq k) e (set_reader read_key) form ps c) f error n

-- ---- what may be read

-- what is read of a part, as if it had been written
turned : {T F : Type 0} → (Value → Result T F → Type 0) → T → Result Value F → Type 0
turned read x (Ok v) = read v (Ok x)
turned read x (Err fault) = ⊥

module _ {K X V F : Type 0} (k : RangeKind K X) {end_place : X → Option K} {part : EndpointOf X → EndpointOf X → X} (p : IsPlaced k end_place part) (eq : V → V → Bool) (e : IsEquivalence eq)
    (r : Reader K V F) (u : IsUnambiguous r) where
  -- a writer of which the reader reads
  abbrev source : Writer K V F
  source = record { shape = r.shape; key = turned r.key; value = turned r.value }

  keys_back : ReadsAlike (λ a b. k.cmp a b ≡ Equal) r.key → KeysReadBack k (turned r.key) r.key
  unfolding turned
  keys_back alike x key v h answer n = alike v x h answer n

  values_again : ReadsAlike (λ a b. eq a b ≡ true) r.value → (x : V) (v s t c s' t' c' : Value) → r.shape v s t c → turned r.value x (Ok c) → r.shape v s' t' c' → (answer : Result V F) → r.value c' answer → (y : V) × (answer ≡ Ok y) × (eq x y ≡ true)
  unfolding turned
  values_again alike x v s t c s' t' c' g h j answer n = alike c' x (u.value v s t c s' t' c' g j (Ok x) h) answer n

  written : (ps : List (X × V)) (vs : List Value) → AllZip (IsRead k r) ps vs → AllZip (IsWritten k source) ps vs
  unfolding turned
  written [] [] h = tt
  written [] (v ∷ vs) h = absurd h
  written (a ∷ ps) [] h = absurd h
  written (a ∷ ps) (v ∷ vs) h = (
    record { start = h.0.start; end = h.0.end; value = h.0.value; shape = h.0.shape; start_is = h.0.start_is; end_is = h.0.end_is; value_is = h.0.value_is },
    written ps vs h.1,
  )

  -- what may be read as pairs that are accepted is refused for want of memory alone
  pub refused_for_memory : (v : Value) (form : Form) (error : ReadError F) → RefusesToRead k r eq form v error → IsRefusedForMemoryAlone k r eq form v error
  refused_for_memory v form error n keys_alike values_alike ps h accepted =
      refused k p eq e source r (λ v s t c h. h) u.start u.end (keys_back keys_alike) (values_again values_alike) ps v form accepted
      (record { entries = h.entries; is_list = h.is_list; written = written ps h.entries h.read }) error n
