-- For callers: what `extend`, `insert_pairs` and `update` leave at each key.
use Rattle.std.proofs.Common.{◌≡◌, ◌∙◌, ℕ, Bool, true, false, ◌||◌, cond, List, [], ◌∷◌, ◌++◌, reverse, Option, Some, None, is_some, length, Result, map-id, refl, sym, ap, subst}
use Rattle.std.proofs.iter.Yields.{listed}
use Rattle.std.proofs.lemmas.Iterator.{YieldsList}
use Rattle.std.proofs.lemmas.Iterator.Adapters.{YieldsList-from_vec, fact_from_extend}
use Rattle.std.proofs.lemmas.List.{reverse-append}
use Rattle.std.specs.Array.Iter.{array_into_iter_items, array_steps}
use Rattle.std.specs.Iterator.{AlwaysYields, Drains, Yields}
use Rattle.std.specs.List.{find}
use Rattle.std.specs.Option.{option_or}
use Rattle.std.specs.Prelude.{MatchResult, OnOk, option_map}
use Rattle.std.specs.Vec.Iter.{into_iter_items, into_iter_steps}
use Rattle.std.specs.declared.alloc.AllocError.{AllocError}
use Rattle.std.specs.declared.array.IntoIter.{IntoIter as ArrayIter}
use Rattle.std.specs.declared.vec.IntoIter.{IntoIter}
use Rattle.rangemap.specs.Ranges.{Overrides, RangeKind, covering, covers, override, override_all, value_at}
use Rattle.rangemap.specs.Sets.{Adds}
use Rattle.rangemap.specs.Updates.{IsChange, UpdatesAll, updated}
use Rattle.rangemap.proofs.CallerLemmas.{value_of}
use Rattle.rangemap.proofs.NumberKinds.{NumberKind}
use Rattle.rangemap.proofs.NumberLemmas.{not_before, not_behind}

-- ---- which items were inserted

-- What follows of the clause `items` of a call that was given an array and succeeded: P, as `Overrides` or `Adds`, holds of all its
-- elements. `becomes.0` says that the iterator has these.
pub array_inserted : {X E Q : Type 0} {n : ℕ} {array : List X} {B : ArrayIter X n → Type 0} {P : List X → Type 0} (result : Result (Unit {0}) E)
    → ((it : ArrayIter X n) × (xs : List X) × B it × P xs × MatchResult result (λ _. Drains array_steps it xs) (λ _. (t : ArrayIter X n) × Yields array_steps it xs t))
    → ((it : ArrayIter X n) → B it → array_into_iter_items it ≡ array) → (P array → Q) → OnOk result Q
array_inserted {X} {array = array} {P = P} result items becomes says = fact_from_extend (λ x. x) result items (λ it b. all it (becomes it b)) (λ xs e holds. says (subst P (sym (map-id xs) ∙ e) holds))
  where
    all : {n : ℕ} (it : ArrayIter X n) → array_into_iter_items it ≡ array → YieldsList array_steps (λ x. x) it array
    all it e = record { runs = subst (AlwaysYields array_steps (λ x. x) it) e (listed {B = X} array_steps (λ x. x) array_into_iter_items (λ s t p. p.0) (λ s x t p. p) it) }

-- the same of a vector
pub vector_inserted : {X A E Q : Type 0} {items : List X} {B : IntoIter X A → Type 0} {P : List X → Type 0} (result : Result (Unit {0}) E)
    → ((it : IntoIter X A) × (xs : List X) × B it × P xs × MatchResult result (λ _. Drains into_iter_steps it xs) (λ _. (t : IntoIter X A) × Yields into_iter_steps it xs t))
    → ((it : IntoIter X A) → B it → into_iter_items it ≡ items) → (P items → Q) → OnOk result Q
vector_inserted {items = items} {P = P} result ran becomes says = fact_from_extend (λ x. x) result ran (λ it b. YieldsList-from_vec items (becomes it b) (it.rest.ok.0 ∙ ap length (becomes it b))) (λ xs e holds. says (subst P (sym (map-id xs) ∙ e) holds))

-- ---- what they leave at a key

module _ {K X V : Type 0} (k : RangeKind K X) where
  appended : (xs ys : List (X × V)) (x : K) → value_at k (xs ++ ys) x ≡ option_or (value_at k xs x) (value_at k ys x)
  appended [] ys x = refl
  appended (p ∷ xs) ys x = by (k.holds p.0 x) (appended xs ys x)
    where
      by : (b : Bool) → value_at k (xs ++ ys) x ≡ option_or (value_at k xs x) (value_at k ys x) → option_map (λ q. q.1) (cond b (Some p) (covering k (xs ++ ys) x)) ≡ option_or (option_map (λ q. q.1) (cond b (Some p) (covering k xs x))) (value_at k ys x)
      by true h = refl
      by false h = h

  overridden : (pairs : List (X × V)) (f : K → Option V) (x : K) → override_all k f pairs x ≡ option_or (value_at k (reverse pairs) x) (f x)
  overridden [] f x = refl
  overridden (p ∷ rest) f x =
      overridden rest (override k f p.0 p.1) x
      ∙ by (value_at k (reverse rest) x) (k.holds p.0 x)
      ∙ sym (ap (λ m. option_or m (f x)) (ap (λ pairs. value_at k pairs x) (reverse-append (p ∷ []) rest) ∙ appended (reverse rest) (p ∷ []) x))
    where
      by : (m : Option V) (b : Bool) → option_or m (cond b (Some p.1) (f x)) ≡ option_or (option_or m (option_map (λ q. q.1) (cond b (Some p) None))) (f x)
      by (Some v) b = refl
      by None true = refl
      by None false = refl

-- After inserts of pairs a key has the value of the last pair whose range has it, or else what it had.
pub value_after : {V : Type 0} {eq : V → V → Bool} → ((v w : V) → eq v w ≡ true → v ≡ w) → {K X : Type 0} {k : RangeKind K X} (old pairs : List (X × V)) {new : List (X × V)} → Overrides k eq old pairs new → (x : K) → k.is_key x → value_at k new x ≡ option_or (value_at k (reverse pairs) x) (value_at k old x)
value_after exact {k = k} old pairs ok x key = value_of exact ok x key ∙ overridden k pairs (value_at k old) x

module _ {K X : Type 0} (k : RangeKind K X) where
  -- one of the ranges has the key
  abbrev pub any_has : List X → K → Bool
  any_has [] x = false
  any_has (r ∷ rest) x = k.holds r x || any_has rest x

  covers_any : (ranges : List X) (x : K) → covers k ranges x ≡ any_has ranges x
  covers_any [] x = refl
  covers_any (r ∷ rest) x = by (k.holds r x) (find (λ s. k.holds s x) rest) (any_has rest x) (covers_any rest x)
    where
      by : (b : Bool) (o : Option X) (c : Bool) → is_some o ≡ c → is_some (cond b (Some r) o) ≡ (b || c)
      by true o c h = refl
      by false o c h = h

  turned : (b c d : Bool) → b ≡ d → (b || c) ≡ (c || d)
  turned true true d h = refl
  turned true false d h = h
  turned false true d h = refl
  turned false false d h = h

  -- After inserts of ranges a set has the keys that it had and those of each range.
  pub covers_after : (old ranges new : List X) → Adds k old ranges new → (x : K) → k.is_key x → covers k new x ≡ (covers k old x || any_has ranges x)
  covers_after old ranges new adds x key = adds.points x key ∙ turned (covers k ranges x) (covers k old x) (any_has ranges x) (covers_any ranges x)

-- ---- what `update` leaves at a number

-- A number of the range r has what g makes of its old value, and any other number has its old value.
pub record IsUpdated {K X V : Type 0} (n : NumberKind K X) (old : List (X × V)) (r : X) (g : V → V) (new : List (X × V)) : Type 0 where
  pub within : (x : K) → n.kind.is_key x → n.order.IsAtMost (n.kind.start r) x → n.order.IsBelow x (n.behind r) → value_at n.kind new x ≡ option_map g (value_at n.kind old x)
  pub before : (x : K) → n.kind.is_key x → n.order.IsBelow x (n.kind.start r) → value_at n.kind new x ≡ value_at n.kind old x
  pub behind : (x : K) → n.kind.is_key x → n.order.IsAtMost (n.behind r) x → value_at n.kind new x ≡ value_at n.kind old x

-- from the clause `ok` of `update`, where g is the change as a function: `search rules` proves `IsChange` of a closure over numbers
pub values_updated : {K X V : Type 0} (n : NumberKind K X) {eq : V → V → Bool} → ((v w : V) → eq v w ≡ true → v ≡ w) → {answers : V → Result V AllocError → Type 0} {old new : List (X × V)} (r : X) (g : V → V) → UpdatesAll n.kind eq answers r old new → IsChange eq answers g → IsUpdated n old r g new
values_updated {K} {X} {V} n {eq} exact {answers} {old} {new} r g ok change = record {
  within = λ x key from to. at x key ∙ ap (λ b. cond b (option_map g (value_at n.kind old x)) (value_at n.kind old x)) (n.holds r x from to);
  before = λ x key below. at x key ∙ ap (λ b. cond b (option_map g (value_at n.kind old x)) (value_at n.kind old x)) (not_before n r x below);
  behind = λ x key past. at x key ∙ ap (λ b. cond b (option_map g (value_at n.kind old x)) (value_at n.kind old x)) (not_behind n r x past);
}
  where
    at : (x : K) → n.kind.is_key x → value_at n.kind new x ≡ updated n.kind r g (value_at n.kind old) x
    at x key = value_of exact (ok g change) x key
