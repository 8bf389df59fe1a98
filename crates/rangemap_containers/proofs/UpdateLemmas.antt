-- New values for the pairs that overlap a range, one after another, are new values for its covered keys.
use Rattle.std.proofs.Common.{◌≡◌, ◌∙◌, ◌<◌, ◌&&◌, ◌++◌, ◌∷◌, [], ap, append-nil, append_assoc, arith, cond, length, refl, subst, sym, take, Bool, true, false, List, Option, Some, None, option_map, Equal, is_le, is_lt, true≢false}
use Rattle.std.specs.Cmp.{IsEquivalence, alike_right, first_so, second_so}
use Rattle.std.specs.Cmp.Derive.{both_true}
use Rattle.std.specs.Option.{option_eq}
use Rattle.std.specs.Prelude.{Result, Ok}
use Rattle.std.specs.declared.alloc.AllocError.{AllocError}
use Rattle.rangemap_core.specs.engine.EndpointKinds.{lt_is}
use Rattle.rangemap_core.specs.engine.Endpoints.{EndpointOf, IsAsked, IsPlaced, asked}
use Rattle.rangemap_core.specs.engine.Intervals.{IsInterval, goes_past}
use Rattle.rangemap_core.specs.engine.PlacedKinds.{place_total}
use Rattle.rangemap_core.specs.laws.Orders.{le_lt}
use Rattle.rangemap_core.specs.Ranges.{Alike, IsCanonOf, IsCanonical, IsStorable, RangeKind, overlapped, same_pair, same_pairs, value_at}
use Rattle.rangemap_core.proofs.AlikeLemmas.{Alike-itself, Alike-turned, canon_along, or_else, same_on}
use Rattle.rangemap_core.proofs.EqualListLemmas.{from_same}
use Rattle.rangemap_core.proofs.UniquenessLemmas.{rest_is_none, value_cons}
use Rattle.rangemap_containers.specs.Updates.{IsChange, UpdatesAll, UpdatesSome, updated, updated_by}

-- f with the new value of the pair, on the keys that its range shares with q
abbrev with_new : {K X V : Type 0} → RangeKind K X → X → (V → V) → X × V → (K → Option V) → K → Option V
with_new k q g a f x = cond (k.holds q x && k.holds a.0 x) (Some (g a.1)) (f x)

module _ {K X V : Type 0} (k : RangeKind K X) (q : X) (g : V → V) where
  elsewhere : (list : List (X × V)) (f : K → Option V) (x : K) → k.holds q x ≡ false → updated_by k q g list f x ≡ f x
  elsewhere [] f x h = refl
  elsewhere (a ∷ rest) f x h = elsewhere rest (with_new k q g a f) x h ∙ ap (λ b. cond (b && k.holds a.0 x) (Some (g a.1)) (f x)) h

  -- one pair more
  behind : (list : List (X × V)) (a : X × V) (f : K → Option V) (x : K) → updated_by k q g (list ++ a ∷ []) f x ≡ with_new k q g a (updated_by k q g list f) x
  behind [] a f x = refl
  behind (b ∷ list) a f x = behind list a (with_new k q g b f) x

  module _ {has_end : Bool} (i : IsInterval k has_end) {eq : V → V → Bool} (e : IsEquivalence eq) (respects : (v w : V) → eq v w ≡ true → eq (g v) (g w) ≡ true) where
    -- ranges with the same ends have the same keys
    tied_holds : (r s : X) (x : K) → k.cmp (k.start r) (k.start s) ≡ Equal → k.cmp (k.end r) (k.end s) ≡ Equal → k.holds r x ≡ k.holds s x
    tied_holds r s x starts ends =
        i.holds r x
        ∙ ap (λ c. is_le c && goes_past has_end (k.cmp x (k.end r))) (i.total.congr (k.start r) (k.start s) x starts)
        ∙ ap (λ c. is_le (k.cmp (k.start s) x) && goes_past has_end c) (alike_right i.total (k.end r) (k.end s) x ends)
        ∙ sym (i.holds s x)

    -- clones of pairs make what the pairs do
    by_clones : (ls ms : List (X × V)) (f h : K → Option V) → same_pairs k eq ls ms ≡ true → Alike k eq f h → Alike k eq (updated_by k q g ls f) (updated_by k q g ms h)
    by_clones [] [] f h same alike = alike
    by_clones [] (m ∷ ms) f h same alike = absurd (true≢false (sym same))
    by_clones (l ∷ ls) [] f h same alike = absurd (true≢false (sym same))
    by_clones (l ∷ ls) (m ∷ ms) f h same alike =
        let both = from_same k eq l m (first_so (same_pair k eq l m) (same_pairs k eq ls ms) same) in
        by_clones ls ms (with_new k q g l f) (with_new k q g m h) (second_so (same_pair k eq l m) (same_pairs k eq ls ms) same)
        (λ x key. same_on e (k.holds q x && k.holds l.0 x) (k.holds q x && k.holds m.0 x) (Some (g l.1)) (Some (g m.1)) (f x) (h x) (ap (λ t. k.holds q x && t) (tied_holds l.0 m.0 x both.starts both.ends)) (respects l.1 m.1 both.values) (alike x key))

-- ---- all pairs that overlap the range

module _ {K X V : Type 0} (k : RangeKind K X) {end_place : X → Option K} {part : EndpointOf X → EndpointOf X → X} (p : IsPlaced k end_place part) {eq : V → V → Bool} (e : IsEquivalence eq) (q : X) (q_asked : IsAsked k q) (g : V → V) where
  -- a range that shares a key with q meets it
  meets : (r : X) (x : K) → IsStorable k r → k.is_key x → k.holds q x ≡ true → k.holds r x ≡ true → k.meets q r ≡ true
  meets r x stored key in_q in_r =
      let hq = sym (p.holds q x q_asked key) ∙ in_q in
      let hr = sym (p.holds r x (asked k r stored) key) ∙ in_r in
      p.meets q r q_asked stored
      ∙ both_true
      (ap is_lt (le_lt (place_total p.total) {a = Some (k.start q)} {b = Some x} {c = end_place r} (first_so _ _ hq) (lt_is _ (second_so _ _ hr))))
      (ap is_lt (le_lt (place_total p.total) {a = Some (k.start r)} {b = Some x} {c = end_place q} (first_so _ _ hr) (lt_is _ (second_so _ _ hq))))

  apart : (r : X) (x : K) → IsStorable k r → k.is_key x → k.holds q x ≡ true → k.meets q r ≡ false → k.holds r x ≡ false
  apart r x stored key in_q none = go (k.holds r x) refl
    where
      go : (b : Bool) → k.holds r x ≡ b → k.holds r x ≡ false
      go true h = absurd (true≢false (sym (meets r x stored key in_q h) ∙ none))
      go false h = h

  within : (list : List (X × V)) (f : K → Option V) (x : K) → IsCanonical k eq list → k.is_key x → k.holds q x ≡ true → updated_by k q g (overlapped k list q) f x ≡ or_else (option_map g (value_at k list x)) (f x)
  within [] f x c key h = refl
  within (a ∷ rest) f x c key h = go (within rest (with_new k q g a f) x c.2 key h) (within rest f x c.2 key h) (k.meets q a.0) refl
    where
      combine : (b : Bool) → k.holds a.0 x ≡ b → or_else (option_map g (value_at k rest x)) (cond b (Some (g a.1)) (f x)) ≡ or_else (option_map g (cond b (Some a.1) (value_at k rest x))) (f x)
      combine true hb = ap (λ m. or_else (option_map g m) (Some (g a.1))) (rest_is_none k p eq e a rest x c key hb)
      combine false hb = refl

      go : updated_by k q g (overlapped k rest q) (with_new k q g a f) x ≡ or_else (option_map g (value_at k rest x)) (with_new k q g a f x) → updated_by k q g (overlapped k rest q) f x ≡ or_else (option_map g (value_at k rest x)) (f x)
          → (b : Bool) → k.meets q a.0 ≡ b → updated_by k q g (cond b (a ∷ overlapped k rest q) (overlapped k rest q)) f x ≡ or_else (option_map g (value_at k (a ∷ rest) x)) (f x)
      go taken skipped true m =
          taken ∙ ap (λ b. or_else (option_map g (value_at k rest x)) (cond (b && k.holds a.0 x) (Some (g a.1)) (f x))) h
          ∙ combine (k.holds a.0 x) refl ∙ ap (λ o. or_else (option_map g o) (f x)) (sym (value_cons k a rest x))
      go taken skipped false m = skipped ∙ ap (λ o. or_else (option_map g o) (f x)) (sym (value_cons k a rest x ∙ ap (λ b. cond b (Some a.1) (value_at k rest x)) (apart a.0 x c.0 key h m)))

  or_itself : (m : Option V) → or_else (option_map g m) m ≡ option_map g m
  or_itself None = refl
  or_itself (Some v) = refl

  all_updated : (list : List (X × V)) (x : K) → IsCanonical k eq list → k.is_key x → updated_by k q g (overlapped k list q) (value_at k list) x ≡ updated k q g (value_at k list) x
  all_updated list x c key = go (k.holds q x) refl
    where
      go : (b : Bool) → k.holds q x ≡ b → updated_by k q g (overlapped k list q) (value_at k list) x ≡ cond b (option_map g (value_at k list x)) (value_at k list x)
      go true h = within list (value_at k list) x c key h ∙ or_itself (value_at k list x)
      go false h = elsewhere k q g (overlapped k list q) (value_at k list) x h

-- ---- the loop

-- Of clones of the pairs that overlap q, those that are done have new values in the container, and the others are left.
pub record AreDone {K X V : Type 0} (k : RangeKind K X) (eq : V → V → Bool) (answers : V → Result V AllocError → Type 0) (q : X) (old left now : List (X × V)) : Type 0 where
  pub done : List (X × V)
  pub clones : same_pairs k eq (overlapped k old q) (done ++ left) ≡ true
  pub made : (g : V → V) → IsChange eq answers g → IsCanonOf k eq (updated_by k q g done (value_at k old)) now

module _ {K X V : Type 0} (k : RangeKind K X) (eq : V → V → Bool) where
  -- clones of a first part are those of a first part
  clones_of_first : (os done left : List (X × V)) → same_pairs k eq os (done ++ left) ≡ true → same_pairs k eq (take (length done) os) done ≡ true
  clones_of_first os [] left same = refl
  clones_of_first [] (d ∷ done) left same = absurd (true≢false (sym same))
  clones_of_first (o ∷ os) (d ∷ done) left same =
      both_true (first_so (same_pair k eq o d) (same_pairs k eq os (done ++ left)) same) (clones_of_first os done left (second_so (same_pair k eq o d) (same_pairs k eq os (done ++ left)) same))

  fewer : (os done : List (X × V)) (a : X × V) (left : List (X × V)) → same_pairs k eq os (done ++ a ∷ left) ≡ true → length done < length os
  fewer [] [] a left same = absurd (true≢false (sym same))
  fewer [] (d ∷ done) a left same = absurd (true≢false (sym same))
  fewer (o ∷ os) [] a left same = omega arith
  fewer (o ∷ os) (d ∷ done) a left same = let less = fewer os done a left (second_so (same_pair k eq o d) (same_pairs k eq os (done ++ a ∷ left)) same) in omega (arith, less)

module _ {K X V : Type 0} (k : RangeKind K X) {eq : V → V → Bool} (e : IsEquivalence eq) (answers : V → Result V AllocError → Type 0) (q : X) (old : List (X × V)) where
  pub none_done : (items : List (X × V)) → IsCanonical k eq old → same_pairs k eq (overlapped k old q) items ≡ true → AreDone k eq answers q old items old
  none_done items can same = record { done = []; clones = same; made = λ g is. record { canonical = can; represents = Alike-itself k e (value_at k old) } }

  pub one_more_done : {rest now : List (X × V)} → AreDone k eq answers q old rest now → (a : X × V) (left : List (X × V)) → rest ≡ a ∷ left → (new : List (X × V)) (w : V) → answers a.1 (Ok w) → IsCanonOf k eq (λ x. cond (k.holds q x && k.holds a.0 x) (Some w) (value_at k now x)) new → AreDone k eq answers q old left new
  one_more_done {rest} {now} h a left is_rest new w answer made = record {
    done = h.done ++ a ∷ [];
    clones = ap (λ items. same_pairs k eq (overlapped k old q) items) (append_assoc h.done (a ∷ []) left ∙ ap (λ items. h.done ++ items) (sym is_rest)) ∙ h.clones;
    made = λ g is. canon_along k e (λ x. cond (k.holds q x && k.holds a.0 x) (Some w) (value_at k now x)) (updated_by k q g (h.done ++ a ∷ []) (value_at k old)) new
        (λ x key. subst (λ o. option_eq eq (cond (k.holds q x && k.holds a.0 x) (Some w) (value_at k now x)) o ≡ true) (sym (behind k q g h.done a (value_at k old) x))
        (same_on e (k.holds q x && k.holds a.0 x) (k.holds q x && k.holds a.0 x) (Some w) (Some (g a.1)) (value_at k now x) (updated_by k q g h.done (value_at k old) x) refl (is.answered a.1 w answer) ((h.made g is).represents x key))) made;
  }

  -- where one is left, some are done
  pub some_done : {has_end : Bool} (i : IsInterval k has_end) {rest now : List (X × V)} → AreDone k eq answers q old rest now → (a : X × V) (left : List (X × V)) → rest ≡ a ∷ left → UpdatesSome k eq answers q old now
  some_done i {rest} {now} h a left is_rest = (
    length h.done,
    fewer k eq (overlapped k old q) h.done a left (subst (λ items. same_pairs k eq (overlapped k old q) (h.done ++ items) ≡ true) is_rest h.clones),
    λ g is. canon_along k e (updated_by k q g h.done (value_at k old)) (updated_by k q g (take (length h.done) (overlapped k old q)) (value_at k old)) now
        (Alike-turned k e (updated_by k q g (take (length h.done) (overlapped k old q)) (value_at k old)) (updated_by k q g h.done (value_at k old))
        (by_clones k q g i e is.respects (take (length h.done) (overlapped k old q)) h.done (value_at k old) (value_at k old) (clones_of_first k eq (overlapped k old q) h.done rest h.clones) (Alike-itself k e (value_at k old)))) (h.made g is),
  )

  -- where none is left, all are
  pub all_done : {end_place : X → Option K} {part : EndpointOf X → EndpointOf X → X} (p : IsPlaced k end_place part) {has_end : Bool} (i : IsInterval k has_end) {rest now : List (X × V)} → IsAsked k q → IsCanonical k eq old → AreDone k eq answers q old rest now → rest ≡ [] → UpdatesAll k eq answers q old now
  all_done p i {rest} {now} q_asked can h is_rest g is =
      let pairs = overlapped k old q in
      let same : same_pairs k eq pairs h.done ≡ true = ap (λ items. same_pairs k eq pairs items) (sym (append-nil h.done) ∙ ap (λ left. h.done ++ left) (sym is_rest)) ∙ h.clones in
      canon_along k e (updated_by k q g h.done (value_at k old)) (updated k q g (value_at k old)) now
      (λ x key. subst (λ o. option_eq eq (updated_by k q g h.done (value_at k old) x) o ≡ true) (all_updated k p e q q_asked g old x can key)
      (Alike-turned k e (updated_by k q g pairs (value_at k old)) (updated_by k q g h.done (value_at k old)) (by_clones k q g i e is.respects pairs h.done (value_at k old) (value_at k old) same (Alike-itself k e (value_at k old))) x key)) (h.made g is)
