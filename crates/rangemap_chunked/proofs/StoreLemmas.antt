-- What becomes of a list in chunks when one chunk is another, two are one, or one is two.
use Rattle.std.proofs.Common.{arith, ◌≡◌, ℕ, zero, suc, ◌+◌, ◌<◌, ◌≤◌, Bool, true, false, ◌&&◌, cond, List, [], ◌∷◌, ◌++◌, length, take, drop, get_or, Option, Some, None, refl, sym, ap, ◌∙◌, subst, true≢false, append_assoc, length-append, length-drop, add-one, is_lt, is_le}
use Rattle.std.proofs.Math.ListN.{set}
use Rattle.std.proofs.lemmas.List.{drop-set-lt, drop_more, length-take-le, nil_from_length, set-get_or, set_split, take-append-drop, take_more_set}
use Rattle.std.specs.List.{filter}
use Rattle.std.specs.Option.{IfSome, option_eq}
use Rattle.std.specs.Cmp.{IsEquivalence}
use Rattle.rangemap_core.specs.Ranges.{RangeKind, IsCanonical, IsCanonOf, IsStorable, override, value_at}
use Rattle.rangemap_core.specs.engine.Endpoints.{IsPlaced, EndpointOf, asked}
use Rattle.rangemap_core.specs.engine.Stretch.{Every}
use Rattle.rangemap_core.specs.laws.Orders.{itself}
use Rattle.rangemap_core.proofs.SearchLemmas.{around}
use Rattle.rangemap_core.proofs.PlaceLemmas.{S}
use Rattle.rangemap_core.proofs.ListLemmas.{Every-append}
use Rattle.rangemap_sorted.specs.Changes.{IsChanged}
use Rattle.rangemap_sorted.proofs.ChangeLemmas.{Every-dropped, Every-taken}
use Rattle.rangemap_chunked.specs.Chunks.{AreFilled, IsClearBefore, IsClearBehind, AreChunks, IsPastBehind, whole}
use Rattle.rangemap_chunked.proofs.ChangeLemmas.{changed_joined}
use Rattle.rangemap_chunked.proofs.ChunkLemmas.{whole_append, whole_around, whole_parts}

pub if_some_weaker : {T P Q : Type 0} (m : Option T) → (P → Q) → IfSome m (λ _. P) → IfSome m (λ _. Q)
if_some_weaker None f h = h
if_some_weaker (Some v) f h = f h

-- a value put where it stands
pub set_own : {Y : Type 0} (xs : List Y) (at : ℕ) (y : Y) → at < length xs → y ≡ get_or xs at y → set xs at y ≡ xs
set_own xs at y l own = ap (λ z. set xs at z) own ∙ set-get_or xs at y

module _ {X : Type 0} where
  pub whole_set : (chunks : List (List X)) (at : ℕ) (new : List X) → at < length chunks → whole (set chunks at new) ≡ whole (take at chunks) ++ (new ++ whole (drop (suc at) chunks))
  whole_set chunks at new l = ap whole (set_split chunks at new l) ∙ whole_append (take at chunks) (new ∷ drop (suc at) chunks)

  pub Every-set : (Q : List X → Type 0) (chunks : List (List X)) (at : ℕ) (new : List X) → Every Q chunks → Q new → Every Q (set chunks at new)
  Every-set Q [] zero new h q = tt
  Every-set Q [] (suc at) new h q = tt
  Every-set Q (x ∷ xs) zero new h q = (q, h.1)
  Every-set Q (x ∷ xs) (suc at) new h q = (h.0, Every-set Q xs at new h.1 q)

  -- how many values there are
  pub changed_length : (chunks : List (List X)) (at : ℕ) (mid new : List X) → at < length chunks → mid ≡ get_or chunks at mid → length (whole (set chunks at new)) + length mid ≡ length (whole chunks) + length new
  changed_length chunks at mid new l is =
      let before = simp length-append at (ap length (whole_around chunks at mid l)) in
      let after = simp length-append at (ap length (whole_set chunks at new l)) in
      let same = ap length is in
      omega (arith, before, after, same)

  pub chunk_length : (chunks : List (List X)) (at : ℕ) (mid : List X) → at < length chunks → mid ≡ get_or chunks at mid → length mid ≤ length (whole chunks)
  chunk_length chunks at mid l is = let all = simp length-append at (ap length (whole_around chunks at mid l)) in let same = ap length is in omega (arith, all, same)

  -- a chunk in two
  module _ (chunks cut new : List (List X)) (at n : ℕ) (mid back : List X) (l : at < length chunks) (is : mid ≡ get_or chunks at mid) (cut_is : cut ≡ set chunks at (take n mid)) (back_is : back ≡ drop n mid) (new_is : new ≡ take (at + 1) cut ++ back ∷ drop (at + 1) cut) where
    split_new : new ≡ take at chunks ++ take n mid ∷ drop n mid ∷ drop (suc at) chunks
    split_new =
        new_is ∙ (λ i. take (at + 1) (cut_is i) ++ back_is i ∷ drop (at + 1) (cut_is i))
        ∙ (λ i. take_more_set chunks at (take n mid) l i ++ drop n mid ∷ (drop-set-lt (at + 1) chunks at (take n mid) (omega arith) ∙ ap (λ m. drop m chunks) (add-one at)) i)
        ∙ append_assoc (take at chunks) (take n mid ∷ []) (drop n mid ∷ drop (suc at) chunks)

    pub split_whole : whole new ≡ whole chunks
    split_whole =
        ap whole split_new ∙ whole_append (take at chunks) (take n mid ∷ drop n mid ∷ drop (suc at) chunks)
        ∙ ap (λ xs. whole (take at chunks) ++ xs) (sym (append_assoc (take n mid) (drop n mid) (whole (drop (suc at) chunks))) ∙ ap (λ xs. xs ++ whole (drop (suc at) chunks)) (take-append-drop n mid ∙ is))
        ∙ sym (whole_around chunks at mid l)

    pub split_filled : 0 < n → n < length mid → AreFilled chunks → AreFilled new
    split_filled some less h =
        let first = length-take-le n mid (omega (arith, less)) in
        let second = length-drop n mid in
        subst AreFilled (sym split_new) (Every-append (λ chunk. 0 < length chunk) (take at chunks) (take n mid ∷ drop n mid ∷ drop (suc at) chunks) (Every-taken _ at chunks h) (omega (arith, first, some), (omega (arith, second, less), Every-dropped _ (suc at) chunks h)))

  -- the chunks from an empty one on, without it
  pub whole_empty : (chunks : List (List X)) (at : ℕ) (mid : List X) → at < length chunks → mid ≡ get_or chunks at mid → length mid ≡ 0 → (front : List X) → front ++ whole (drop (at + 1) chunks) ≡ front ++ whole (drop at chunks)
  whole_empty chunks at mid l is none front = ap (λ xs. front ++ xs) (ap (λ (xs : List X). xs ++ whole (drop (at + 1) chunks)) (sym (nil_from_length mid none) ∙ is) ∙ sym (ap whole (drop_more chunks at mid l)))

  -- an empty chunk taken out
  pub whole_without : (chunks new : List (List X)) (at : ℕ) (mid : List X) → at < length chunks → mid ≡ get_or chunks at mid → length mid ≡ 0 → new ≡ take at chunks ++ drop (at + 1) chunks → whole new ≡ whole chunks
  whole_without chunks new at mid l is none new_is =
      ap whole new_is ∙ whole_append (take at chunks) (drop (at + 1) chunks) ∙ whole_empty chunks at mid l is none (whole (take at chunks)) ∙ sym (whole_parts at chunks)

  pub filled_around : (chunks : List (List X)) (at : ℕ) (mid : List X) → at < length chunks → mid ≡ get_or chunks at mid → 0 < length mid → AreFilled (take at chunks) → AreFilled (drop (at + 1) chunks) → AreFilled chunks
  filled_around chunks at mid l is some before behind =
      subst AreFilled (sym (around chunks at mid l)) (Every-append (λ chunk. 0 < length chunk) (take at chunks) (get_or chunks at mid ∷ drop (suc at) chunks) before (subst (λ (xs : List X). 0 < length xs) is some, subst (λ n. AreFilled (drop n chunks)) (add-one at) behind))

module _ {X : Type 0} (test : X → Bool) where
  none_left : (xs ys : List X) → filter test (xs ++ ys) ≡ [] → (filter test xs ≡ []) × (filter test ys ≡ [])
  none_left [] ys h = (refl, h)
  none_left (x ∷ xs) ys h = go (none_left xs ys) (test x) h
    where
      go : (filter test (xs ++ ys) ≡ [] → (filter test xs ≡ []) × (filter test ys ≡ [])) → (b : Bool) → cond b (x ∷ filter test (xs ++ ys)) (filter test (xs ++ ys)) ≡ [] → (cond b (x ∷ filter test xs) (filter test xs) ≡ []) × (filter test ys ≡ [])
      go more true h = absurd (cc)
      go more false h = more h

  pub none_in_chunk : (chunks : List (List X)) (at : ℕ) (mid : List X) → at < length chunks → mid ≡ get_or chunks at mid → filter test (whole chunks) ≡ [] → filter test mid ≡ []
  none_in_chunk chunks at mid l is h =
      let all : filter test (whole (take at chunks) ++ (get_or chunks at mid ++ whole (drop (suc at) chunks))) ≡ [] = ap (filter test) (sym (whole_around chunks at mid l)) ∙ h in
      ap (filter test) is ∙ (none_left (get_or chunks at mid) (whole (drop (suc at) chunks)) (none_left (whole (take at chunks)) (get_or chunks at mid ++ whole (drop (suc at) chunks)) all).1).0

module _ {K X : Type 0} {k : RangeKind K X} {end_place : X → Option K} {chunk : EndpointOf X → EndpointOf X → X} (p : IsPlaced k end_place chunk) {V : Type 0} {eq : V → V → Bool} (e : IsEquivalence eq) where
  holds_start : (r : X) → IsStorable k r → k.holds r (k.start r) ≡ true
  holds_start r stored = p.holds r (k.start r) (asked k r stored) stored.start_is_key ∙ (λ i. is_le (itself p.total (k.start r) i) && is_lt (p.non_empty r stored i))

  -- where a key has a value there are pairs
  pub override_fills : (f : K → Option V) (r : X) (v : V) (new : List (X × V)) → IsStorable k r → IsCanonOf k eq (override k f r v) new → 0 < length new
  override_fills f r v [] stored h = absurd (true≢false (sym (h.represents (k.start r) stored.start_is_key) ∙ ap (λ b. option_eq eq None (cond b (Some v) (f (k.start r)))) (holds_start r stored)))
  override_fills f r v (a ∷ new) stored h = omega arith

  pub changed_fills : (f : K → Option V) (r : X) (m : Option V) (new : List (X × V)) → IsStorable k r → IsChanged k eq f r m new → IfSome m (λ _. 0 < length new)
  changed_fills f r None new stored h = tt
  changed_fills f r (Some v) new stored h = override_fills f r v new stored h.canon

  module _ (chunks : List (List (X × V))) (h : AreChunks k eq chunks) (at : ℕ) (l : at < length chunks) (mid new : List (X × V)) (is : mid ≡ get_or chunks at mid) (r : X) (stored : IsStorable k r) (before : IsClearBefore (S p eq) chunks r at) where
    around_mid : whole chunks ≡ whole (take at chunks) ++ (mid ++ whole (drop (suc at) chunks))
    around_mid = whole_around chunks at mid l ∙ ap (λ xs. whole (take at chunks) ++ (xs ++ whole (drop (suc at) chunks))) (sym is)

    canonical_around : IsCanonical k eq (whole (take at chunks) ++ (mid ++ whole (drop (suc at) chunks)))
    canonical_around = subst (IsCanonical k eq) around_mid h.canonical

    -- a chunk after a change
    pub chunk_changed : (m : Option V) → IsChanged k eq (value_at k mid) r m new → IsPastBehind (S p eq) chunks r (at + 1) → IfSome m (λ _. IsClearBehind (S p eq) chunks r (at + 1)) → IsChanged k eq (value_at k (whole chunks)) r m (whole (set chunks at new))
    chunk_changed m o behind clear =
        rw (around_mid, whole_set chunks at new l) (changed_joined p e (whole (take at chunks)) mid (whole (drop (suc at) chunks)) new r canonical_around stored before m o
        (subst (λ n. IsPastBehind (S p eq) chunks r n) (add-one at) behind) (subst (λ n. IfSome m (λ _. IsClearBehind (S p eq) chunks r n)) (add-one at) clear))
