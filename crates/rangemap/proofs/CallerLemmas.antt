-- For callers: what the contracts of the maps say key by key, of any kind of range.
-- `NumberLemmas` says it in numbers.
use Rattle.std.proofs.Common.{◌≡◌, ◌≢◌, Bool, true, false, not, ◌&&◌, cond, List, [], ◌∷◌, map, Option, Some, None, is_some, refl, sym, ap, subst, ◌∙◌, true≢false}
use Rattle.std.specs.Option.{option_eq}
use Rattle.std.specs.List.{find}
use Rattle.std.specs.Cmp.{IsEquivalence, first_so, second_so}
use Rattle.std.proofs.lemmas.Bool.{and_from}
use Rattle.rangemap_core.specs.Ranges.{RangeKind, Alike, AreGaps, IsCanonOf, IsCanonical, covers, erase, override, same_pairs, value_at}
use Rattle.rangemap_core.specs.engine.Endpoints.{IsPlaced, EndpointOf}
use Rattle.rangemap_core.proofs.AlikeLemmas.{Alike-itself}
use Rattle.rangemap_core.proofs.UniquenessLemmas.{alike_from_same, canon_unique, equal_pairs}
use Rattle.rangemap_core.proofs.StoredKeyLemmas.{holds_start}
use Rattle.rangemap_core.proofs.UnitValueLemmas.{value_covers}

-- ---- values

-- what `Alike` says of one key, where equal values are the same value
module _ {V : Type 0} {eq : V → V → Bool} (exact : (v w : V) → eq v w ≡ true → v ≡ w) where
  pub exact_option : (m n : Option V) → option_eq eq m n ≡ true → m ≡ n
  exact_option None None h = refl
  exact_option None (Some w) h = absurd (true≢false (sym h))
  exact_option (Some v) None h = absurd (true≢false (sym h))
  exact_option (Some v) (Some w) h = ap Some (exact v w h)

-- The value at a key, from the clause `ok` of an insert or a remove as it stands: `grind (arith,
-- nat_tests, value_of same_number c.in_ok-insert.ensures.ok 8 (omega arith))`.
pub value_of : {V : Type 0} {eq : V → V → Bool} → ((v w : V) → eq v w ≡ true → v ≡ w) → {K X : Type 0} {k : RangeKind K X} {f : K → Option V} {list : List (X × V)} → IsCanonOf k eq f list → (x : K) → k.is_key x → value_at k list x ≡ f x
value_of exact {k = k} {f = f} {list = list} h x key = exact_option exact (value_at k list x) (f x) (h.represents x key)

-- where equality need not be exact, none is still none
pub none_from_alike : {V : Type 0} (eq : V → V → Bool) (m : Option V) → option_eq eq m None ≡ true → m ≡ None
none_from_alike eq None h = refl
none_from_alike eq (Some v) h = absurd (true≢false (sym h))

module _ {K X V : Type 0} (k : RangeKind K X) (eq : V → V → Bool) (f : K → Option V) (r : X) (list : List (X × V)) (x : K) (key : k.is_key x) where
  -- after an insert, a key of the range has the value
  pub insert_within : (v : V) → IsCanonOf k eq (override k f r v) list → k.holds r x ≡ true → option_eq eq (value_at k list x) (Some v) ≡ true
  insert_within v h e = subst (λ b. option_eq eq (value_at k list x) (cond b (Some v) (f x)) ≡ true) e (h.represents x key)

  -- and any other key what it had
  pub insert_outside : (v : V) → IsCanonOf k eq (override k f r v) list → k.holds r x ≡ false → option_eq eq (value_at k list x) (f x) ≡ true
  insert_outside v h e = subst (λ b. option_eq eq (value_at k list x) (cond b (Some v) (f x)) ≡ true) e (h.represents x key)

  -- after a remove, a key of the range has nothing
  pub remove_within : IsCanonOf k eq (erase k f r) list → k.holds r x ≡ true → value_at k list x ≡ None
  remove_within h e = none_from_alike eq (value_at k list x) (subst (λ b. option_eq eq (value_at k list x) (cond b None (f x)) ≡ true) e (h.represents x key))

  -- and any other key what it had
  pub remove_outside : IsCanonOf k eq (erase k f r) list → k.holds r x ≡ false → option_eq eq (value_at k list x) (f x) ≡ true
  remove_outside h e = subst (λ b. option_eq eq (value_at k list x) (cond b None (f x)) ≡ true) e (h.represents x key)

-- ---- one list a function

module _ {K X V : Type 0} {k : RangeKind K X} {end_place : X → Option K} {part : EndpointOf X → EndpointOf X → X} (p : IsPlaced k end_place part) {eq : V → V → Bool} (e : IsEquivalence eq) where
  -- two maps of one function are equal, whatever their histories
  pub same_function : (f : K → Option V) (left right : List (X × V)) → IsCanonOf k eq f left → IsCanonOf k eq f right → same_pairs k eq left right ≡ true
  same_function f left right a b = canon_unique k p eq e f left right a b

  pub equal_from_alike : (left right : List (X × V)) → IsCanonical k eq left → IsCanonical k eq right → Alike k eq (value_at k left) (value_at k right) → same_pairs k eq left right ≡ true
  equal_from_alike left right a b h = equal_pairs k p eq e left right a b h

  -- the same, where they answer the same
  pub equal_where_same : (left right : List (X × V)) → IsCanonical k eq left → IsCanonical k eq right → ((x : K) → k.is_key x → value_at k left x ≡ value_at k right x) → same_pairs k eq left right ≡ true
  equal_where_same left right a b h = equal_from_alike left right a b (λ x key. subst (λ m. option_eq eq (value_at k left x) m ≡ true) (h x key) (Alike-itself k e (value_at k left) x key))

  pub alike_from_equal : (left right : List (X × V)) → IsCanonical k eq left → IsCanonical k eq right → same_pairs k eq left right ≡ true → Alike k eq (value_at k left) (value_at k right)
  alike_from_equal left right a b h = alike_from_same k p eq e left right a b h

-- ---- gaps, key by key

-- What gaps say of keys: a key of a gap is one of the range q and has no value, and a key of the range
-- that has none is in a gap.
pub record GapKeys {K X V : Type 0} (k : RangeKind K X) (list : List (X × V)) (q : X) (gaps : List X) : Type 0 where
  pub within : (x : K) → k.is_key x → covers k gaps x ≡ true → k.holds q x ≡ true
  pub undefined : (x : K) → k.is_key x → covers k gaps x ≡ true → value_at k list x ≡ None
  pub all : (x : K) → k.is_key x → k.holds q x ≡ true → value_at k list x ≡ None → covers k gaps x ≡ true

pub gap_keys : {K X V : Type 0} (k : RangeKind K X) (list : List (X × V)) (q : X) (gaps : List X) → AreGaps k (map (λ p. p.0) list) q gaps → GapKeys k list q gaps
gap_keys {K} {X} {V} k list q gaps are = record {
  within = λ x key h. first_so (k.holds q x) (not (is_some (value_at k list x))) (sym (points x key) ∙ h);
  undefined = λ x key h. is_none (value_at k list x) (second_so (k.holds q x) (not (is_some (value_at k list x))) (sym (points x key) ∙ h));
  all = λ x key h none. points x key ∙ and_from (k.holds q x) (not (is_some (value_at k list x))) h (ap (λ m. not (is_some m)) none);
}
  where
    points : (x : K) → k.is_key x → covers k gaps x ≡ (k.holds q x && not (is_some (value_at k list x)))
    points x key = are.points x key ∙ ap (λ c. k.holds q x && not c) (sym (value_covers k list x))

    is_none : (m : Option V) → not (is_some m) ≡ true → m ≡ None
    is_none None h = refl
    is_none (Some v) h = absurd (true≢false (sym h))

-- a range each of whose keys has a value has no gaps, and the other way round
pub no_gaps : {K X V : Type 0} {k : RangeKind K X} {end_place : X → Option K} {part : EndpointOf X → EndpointOf X → X} (p : IsPlaced k end_place part) (list : List (X × V)) (q : X) (gaps : List X) → AreGaps k (map (λ pair. pair.0) list) q gaps → ((x : K) → k.is_key x → k.holds q x ≡ true → value_at k list x ≢ None) → gaps ≡ []
no_gaps p list q [] are all = refl
no_gaps {X = X} {k = k} p list q (g ∷ gaps) are all =
    let stored = are.canonical.0 in
    let here : covers k (g ∷ gaps) (k.start g) ≡ true = ap (λ b. is_some (cond b (Some g) (find (λ r. k.holds r (k.start g)) gaps))) (holds_start p g stored) in
    let keys = gap_keys k list q (g ∷ gaps) are in
    absurd (all (k.start g) stored.start_is_key (keys.within (k.start g) stored.start_is_key here) (keys.undefined (k.start g) stored.start_is_key here))

pub defined_without_gaps : {K X V : Type 0} (k : RangeKind K X) (list : List (X × V)) (q : X) → AreGaps k (map (λ pair. pair.0) list) q [] → (x : K) → k.is_key x → k.holds q x ≡ true → value_at k list x ≢ None
defined_without_gaps k list q are x key h none = true≢false (sym ((gap_keys k list q [] are).all x key h none))
