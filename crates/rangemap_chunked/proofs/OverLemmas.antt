-- The chunks around a range that reaches over several: the first one, what lies between, and the last, of which a pair at a place is looked at.
use Rattle.std.proofs.Common.{arith, ◌≡◌, ℕ, suc, ◌+◌, ◌-◌, ◌<◌, ◌≤◌, Bool, false, List, [], ◌∷◌, ◌++◌, length, take, drop, get_or, Option, Some, None, refl, sym, ap, ◌∙◌, subst, append_assoc, length-append, add-one, Less, is_gt}
use Rattle.std.proofs.Math.ListN.{set}
use Rattle.std.proofs.Math.Seq.{drop-cons}
use Rattle.std.proofs.lemmas.List.{drop-drop, drop-set, drop-set-lt, drop_at, length-set, length-take-le, nil_from_length, take-set-le, take_at, take_more_set}
use Rattle.std.specs.Prelude.{IfSome}
use Rattle.std.specs.Cmp.{IsEquivalence}
use Rattle.rangemap_core.specs.Ranges.{RangeKind, IsCanonical, IsStorable, value_at}
use Rattle.rangemap_core.specs.engine.Endpoints.{IsPlaced, EndpointOf}
use Rattle.rangemap_core.specs.engine.Places.{place_cmp}
use Rattle.rangemap_core.specs.engine.Stretch.{Every}
use Rattle.rangemap_core.proofs.PlaceLemmas.{S, places}
use Rattle.rangemap_core.proofs.PlaceOrderLemmas.{lt_le}
use Rattle.rangemap_core.proofs.ListLemmas.{Every-append, Every-map}
use Rattle.rangemap_sorted.specs.Changes.{IsChanged}
use Rattle.rangemap_sorted.proofs.ChangeLemmas.{Every-dropped, Every-taken}
use Rattle.rangemap_chunked.proofs.MoveLemmas.{one_at, put_back}
use Rattle.rangemap_chunked.specs.Chunks.{AreChunks, AreFilled, AreFilledBut, IsClearBefore, IsClearBehind, IsLastTouched, IsPastBehind, IsPastStart, whole}
use Rattle.rangemap_chunked.proofs.BorderLemmas.{Every-left}
use Rattle.rangemap_chunked.proofs.ChunkLemmas.{between, whole_append, whole_around, whole_behind}
use Rattle.rangemap_chunked.proofs.HalvesLemmas.{IsSpan}
use Rattle.rangemap_chunked.proofs.StoreLemmas.{if_some_weaker}
use Rattle.rangemap_chunked.proofs.WideLemmas.{first_canonical, wide_changed}

if_some_always : {T P : Type 0} (m : Option T) → P → IfSome m (λ _. P)
if_some_always None h = tt
if_some_always (Some v) h = h

pub still_filled : {X V : Type 0} (value : Option V) (at : ℕ) (chunks : List (List X)) → AreFilled chunks → AreFilledBut value at chunks
still_filled value at chunks filled = record { all = if_some_always value filled; before = Every-taken _ at chunks filled; behind = Every-dropped _ (at + 1) chunks filled }

module _ {X : Type 0} (chunks : List (List X)) where
  -- those before a pair of the last chunk, the pair itself, and those behind it
  abbrev pub gone : (at last place : ℕ) → List X
  gone at last place = between chunks at last ++ take place (get_or chunks last [])

  abbrev pub one : (last place : ℕ) → List X
  one last place = take 1 (drop place (get_or chunks last []))

  abbrev pub left : (last place : ℕ) → List X
  left last place = drop (place + 1) (get_or chunks last [])

-- The first chunk was changed, those between were taken out, and of the last what is left stays, if there is some.
pub record IsOver {X : Type 0} (old new : List (List X)) (at last : ℕ) (first_new last_new : List X) : Type 0 where
  pub rest : List (List X)
  pub is : new ≡ take at old ++ first_new ∷ rest
  pub rest_is : whole rest ≡ last_new ++ whole (drop (suc last) old)
  pub rest_filled : AreFilled (drop (suc last) old) → AreFilled rest

module _ {X : Type 0} {chunks : List (List X)} {at last : ℕ} (w : IsSpan chunks at last) where
  module _ (first_new last_new : List X) (items new : List (List X)) (items_is : items ≡ set (set chunks at first_new) last last_new) where
    new_is : (kept rest : List (List X)) → kept ≡ rest → new ≡ take (at + 1) items ++ kept → new ≡ take at chunks ++ first_new ∷ rest
    new_is kept rest kept_is is =
        let front : take (at + 1) items ≡ take at chunks ++ first_new ∷ [] = ap (take (at + 1)) items_is ∙ take-set-le (at + 1) (set chunks at first_new) last last_new (omega arith) ∙ take_more_set chunks at first_new (omega arith) in
        is ∙ (λ i. front i ++ kept_is i) ∙ append_assoc (take at chunks) (first_new ∷ []) rest

    past_last : drop (last + 1) (set chunks at first_new) ≡ drop (suc last) chunks
    past_last = drop-set-lt (last + 1) chunks at first_new (omega arith) ∙ ap (λ n. drop n chunks) (add-one last)

    -- the last chunk goes with those between, since nothing is left of it
    pub over_through : length last_new ≡ 0 → new ≡ take (at + 1) items ++ drop (last + 1) items → IsOver chunks new at last first_new last_new
    over_through none is = record {
      rest = drop (suc last) chunks;
      is = new_is (drop (last + 1) items) (drop (suc last) chunks) (ap (drop (last + 1)) items_is ∙ drop-set-lt (last + 1) (set chunks at first_new) last last_new (omega arith) ∙ past_last) is;
      rest_is = ap (λ (xs : List X). xs ++ whole (drop (suc last) chunks)) (sym (nil_from_length last_new none));
      rest_filled = λ filled. filled;
    }

    -- it stays, with what is left of it
    pub over_up_to : 0 < length last_new → new ≡ take (at + 1) items ++ drop last items → IsOver chunks new at last first_new last_new
    over_up_to some is = record {
      rest = last_new ∷ drop (suc last) chunks;
      is = new_is (drop last items) (last_new ∷ drop (suc last) chunks) (ap (drop last) items_is ∙ drop-set (set chunks at first_new) last last_new (omega (arith, length-set chunks at first_new)) ∙ ap (λ ps. last_new ∷ ps) past_last) is;
      rest_is = refl;
      rest_filled = λ filled. (some, filled);
    }

  module _ {first_new last_new : List X} {new : List (List X)} (over : IsOver chunks new at last first_new last_new) where
    before_length : length (take at chunks) ≡ at
    before_length = length-take-le at chunks (omega arith)

    pub over_whole : whole new ≡ whole (take at chunks) ++ (first_new ++ (last_new ++ whole (drop (suc last) chunks)))
    over_whole = ap whole over.is ∙ whole_append (take at chunks) (first_new ∷ over.rest) ∙ ap (λ xs. whole (take at chunks) ++ (first_new ++ xs)) over.rest_is

    pub over_longer : at < length new
    over_longer = let all = ap length over.is ∙ length-append (take at chunks) (first_new ∷ over.rest) in let before = before_length in omega (arith, all, before)

    behind_filled : AreFilled chunks → AreFilled over.rest
    behind_filled filled = over.rest_filled (Every-dropped _ (suc last) chunks filled)

    pub over_filled : AreFilled chunks → 0 < length first_new → AreFilled new
    over_filled filled some = subst AreFilled (sym over.is) (Every-append (λ chunk. 0 < length chunk) (take at chunks) (first_new ∷ over.rest) (Every-taken _ at chunks filled) (some, behind_filled filled))

    pub over_filled_but : {V : Type 0} (value : Option V) → AreFilled chunks → IfSome value (λ _. 0 < length first_new) → AreFilledBut value at new
    over_filled_but value filled fills = record {
      all = if_some_weaker value (over_filled filled) fills;
      before = subst AreFilled (sym (ap (take at) over.is ∙ take_at (take at chunks) (first_new ∷ over.rest) at before_length)) (Every-taken _ at chunks filled);
      behind = subst AreFilled (sym (ap (drop (at + 1)) over.is ∙ sym (drop-drop 1 at (take at chunks ++ first_new ∷ over.rest)) ∙ ap (drop 1) (drop_at (take at chunks) (first_new ∷ over.rest) at before_length))) (behind_filled filled);
    }

  -- a pair of the last chunk
  module _ (place : ℕ) (l : place < length (get_or chunks last [])) where
    pub behind_all : whole (drop (suc at) chunks) ≡ gone chunks at last place ++ (one chunks last place ++ (left chunks last place ++ whole (drop (suc last) chunks)))
    behind_all = whole_behind chunks at last w.order w.bound ∙ ap (λ xs. between chunks at last ++ (xs ++ whole (drop (suc last) chunks))) (sym (put_back (get_or chunks last []) place l)) ∙ simp append_assoc

    pub around_all : whole chunks ≡ whole (take at chunks) ++ (get_or chunks at [] ++ (gone chunks at last place ++ (one chunks last place ++ (left chunks last place ++ whole (drop (suc last) chunks)))))
    around_all = whole_around chunks at [] (omega arith) ∙ ap (λ xs. whole (take at chunks) ++ (get_or chunks at [] ++ xs)) behind_all

    -- how many pairs there are
    old_length : length (whole chunks) ≡ length (whole (take at chunks)) + (length (get_or chunks at []) + (length (between chunks at last) + place + (1 + (length (left chunks last place) + length (whole (drop (suc last) chunks))))))
    old_length =
        let taken = length-take-le place (get_or chunks last []) (omega arith) in
        let single = one_at (get_or chunks last []) place l in
        let all = simp length-append at (ap length around_all) in
        omega (arith, taken, single, all)

    -- and how many a change takes out
    module _ (n : ℕ) (n_is : n ≡ length (whole (take (last - at) (drop at chunks)))) where
      n_sum : n ≡ length (get_or chunks at []) + length (between chunks at last)
      n_sum =
          let more : last - at ≡ suc (last - suc at) = omega arith in
          n_is ∙ (λ i. length (whole (take (more i) (drop-cons chunks at [] (omega arith) i)))) ∙ length-append (get_or chunks at []) (between chunks at last)

      pub count_less : n + place + 1 ≤ length (whole chunks)
      count_less = let a = n_sum in let b = old_length in omega (arith, a, b)

      pub count_more : length (get_or chunks at []) ≤ n
      count_more = let a = n_sum in omega (arith, a)

      pub sums : (first_new : List X) (new : List (List X)) → whole new ≡ whole (take at chunks) ++ (first_new ++ (left chunks last place ++ whole (drop (suc last) chunks))) → length (whole new) + (n + place + 1) ≡ length (whole chunks) + length first_new
      sums first_new new is =
          let a = n_sum in
          let b = old_length in
          let c = simp length-append at (ap length is) in
          omega (arith, a, b, c)

-- ---- by keys

module _ {K X : Type 0} {k : RangeKind K X} {end_place : X → Option K} {part : EndpointOf X → EndpointOf X → X} (p : IsPlaced k end_place part) {V : Type 0} {eq : V → V → Bool} (e : IsEquivalence eq)
    {chunks : List (List (X × V))} (h : AreChunks k eq chunks) {r : X} (stored : IsStorable k r) {at last : ℕ} (w : IsSpan chunks at last) {place : ℕ} (found : IsLastTouched (S p eq) r (get_or chunks last []) place)
    (past : IsPastStart (S p eq) chunks r (at + 1)) where
  past_gone : Every (λ b. is_gt (place_cmp k.cmp (Some (k.start r)) (Some (k.start b.0))) ≡ false) (gone chunks at last place)
  past_gone =
      Every-left (λ b. is_gt (place_cmp k.cmp (Some (k.start r)) (Some (k.start b.0))) ≡ false) (gone chunks at last place) (one chunks last place ++ (left chunks last place ++ whole (drop (suc last) chunks)))
      (subst (Every (λ b. is_gt (place_cmp k.cmp (Some (k.start r)) (Some (k.start b.0))) ≡ false)) (ap (λ n. whole (drop n chunks)) (add-one at) ∙ behind_all w place found.in_bounds) past)

  some : 0 < length (one chunks last place)
  some = let single = one_at (get_or chunks last []) place found.in_bounds in omega (arith, single)

  pub over_canonical : IsCanonical k eq (get_or chunks at [] ++ one chunks last place)
  over_canonical =
      first_canonical p e r stored (whole chunks) (whole (take at chunks)) (get_or chunks at []) (gone chunks at last place) (one chunks last place) (left chunks last place) (whole (drop (suc last) chunks))
      (around_all w place found.in_bounds) h.canonical some found.touched past_gone

  -- what the change of the first chunk with that pair makes of the whole
  pub over_changed : (m : Option V) (new : List (X × V)) → IsChanged k eq (value_at k (get_or chunks at [] ++ one chunks last place)) r m new → IsClearBefore (S p eq) chunks r at → IsPastBehind (S p eq) chunks r (suc last) → IfSome m (λ _. IsClearBehind (S p eq) chunks r (suc last))
      → IsChanged k eq (value_at k (whole chunks)) r m (whole (take at chunks) ++ (new ++ (left chunks last place ++ whole (drop (suc last) chunks))))
  over_changed m new made before behind clear =
      wide_changed p e r stored (whole chunks) (whole (take at chunks)) (get_or chunks at []) (gone chunks at last place) (one chunks last place) (left chunks last place) (whole (drop (suc last) chunks))
      (around_all w place found.in_bounds) h.canonical some found.touched past_gone new before m made
      (Every-append (λ b. is_gt (place_cmp k.cmp (end_place r) (Some (k.start b.0))) ≡ false) (left chunks last place) (whole (drop (suc last) chunks))
      (Every-map (λ b. place_cmp k.cmp (end_place r) (Some (k.start b.0)) ≡ Less) _ (left chunks last place) (λ b l. lt_le (places p eq) (end_place r) (Some (k.start b.0)) l) found.behind) behind)
      (if_some_weaker m (λ (h : IsClearBehind (S p eq) chunks r (suc last)). Every-append (λ b. place_cmp k.cmp (end_place r) (Some (k.start b.0)) ≡ Less) (left chunks last place) (whole (drop (suc last) chunks)) found.behind h) clear)
