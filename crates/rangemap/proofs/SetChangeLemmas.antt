-- For callers: what a set has after a change, by ≤ and <, of each kind of numbers; what its gaps are, key by key; and that equal sets
-- have the same keys.
use Rattle.std.proofs.Common.{◌≡◌, ◌∙◌, ◌∷◌, [], ℕ, ◌<◌, ap, sym, refl, Bool, true, false, not, ◌&&◌, is_some, nat_le, List, Option, Some, None, true≢false}
use Rattle.std.proofs.lemmas.Bool.{and_from}
use Rattle.std.specs.Bool.{⊤}
use Rattle.std.specs.Cmp.{first_so, second_so}
use Rattle.std.specs.Option.{option_eq}
use Rattle.std.specs.Ordering.{nat_cmp}
use Rattle.std.specs.Range.{range_inclusive_end}
use Rattle.std.specs.declared.ops.RangeInclusive.{RangeInclusive}
use Rattle.rangemap_core.specs.engine.Endpoints.{EndpointOf, IsPlaced}
use Rattle.rangemap_core.specs.laws.UnitPairs.{same_with_unit}
use Rattle.rangemap_core.specs.Ranges.{AreGaps, RangeKind, closed, covers, same_ranges, unit_eq, value_at, with_unit}
use Rattle.rangemap_core.specs.Sets.{Adds, IsCanonicalSet, TakesOut}
use Rattle.rangemap_core.proofs.SetLemmas.{valued_where_covered}
use Rattle.rangemap.proofs.CallerLemmas.{alike_from_equal}
use Rattle.rangemap.proofs.NumberKinds.{NumberKind}
use Rattle.rangemap.proofs.NumberLemmas.{not_before, not_behind}
use Rattle.rangemap.proofs.SetCallerLemmas.{added_outside, added_within, taken_outside, taken_within}
use Rattle.rangemap.proofs.SetNumberLemmas.{IsFromTo, closed_test, taken}
use Rattle.rangemap.proofs.SetRoundTripLemmas.{unit_equiv}

-- ---- after an insert, and after a removal

module _ {K X : Type 0} (n : NumberKind K X) (old : List X) (r : X) (new : List X) where
  -- the set has the numbers of the range r, and of the others those that it had
  pub record IsAdded : Type 0 where
    pub within : (x : K) → n.kind.is_key x → n.order.IsAtMost (n.kind.start r) x → n.order.IsBelow x (n.behind r) → covers n.kind new x ≡ true
    pub before : (x : K) → n.kind.is_key x → n.order.IsBelow x (n.kind.start r) → covers n.kind new x ≡ covers n.kind old x
    pub behind : (x : K) → n.kind.is_key x → n.order.IsAtMost (n.behind r) x → covers n.kind new x ≡ covers n.kind old x

  -- the set has no number of the range r, and of the others those that it had
  pub record IsTakenOut : Type 0 where
    pub within : (x : K) → n.kind.is_key x → n.order.IsAtMost (n.kind.start r) x → n.order.IsBelow x (n.behind r) → covers n.kind new x ≡ false
    pub before : (x : K) → n.kind.is_key x → n.order.IsBelow x (n.kind.start r) → covers n.kind new x ≡ covers n.kind old x
    pub behind : (x : K) → n.kind.is_key x → n.order.IsAtMost (n.behind r) x → covers n.kind new x ≡ covers n.kind old x

  pub set_inserted : Adds n.kind old (r ∷ []) new → IsAdded
  set_inserted adds = record {
    within = λ x key from to. added_within n.kind old new r adds x key (n.holds r x from to);
    before = λ x key below. added_outside n.kind old new r adds x key (not_before n r x below);
    behind = λ x key past. added_outside n.kind old new r adds x key (not_behind n r x past);
  }

  pub set_removed : TakesOut n.kind old r new → IsTakenOut
  set_removed takes = record {
    within = λ x key from to. taken_within n.kind old new r takes x key (n.holds r x from to);
    before = λ x key below. taken_outside n.kind old new r takes x key (not_before n r x below);
    behind = λ x key past. taken_outside n.kind old new r takes x key (not_behind n r x past);
  }

-- what a set of numbers covers after a removal of `first..=last`
pub taken_closed : (bound : ℕ) (old new : List (RangeInclusive ℕ)) {first last : ℕ} (r : RangeInclusive ℕ) → IsFromTo first last r → TakesOut (closed (λ y. y < bound) nat_cmp) old r new → (x : ℕ) → x < bound → covers (closed (λ y. y < bound) nat_cmp) new x ≡ (covers (closed (λ y. y < bound) nat_cmp) old x && not (nat_le first x && nat_le x last))
taken_closed bound old new {first} {last} r ends takes x key =
    taken (closed (λ y. y < bound) nat_cmp) old new r x key takes
    ∙ ap (λ b. covers (closed (λ y. y < bound) nat_cmp) old x && not b) (closed_test bound r x ∙ ap (λ a. nat_le a x && nat_le x (range_inclusive_end r)) ends.0 ∙ ap (λ a. nat_le first x && nat_le x a) ends.1)

-- ---- gaps, key by key

-- What gaps say of keys: a key of a gap is one of the range q that the set lacks, and a key of the range that it lacks is in a gap.
pub record SetGapKeys {K X : Type 0} (k : RangeKind K X) (set : List X) (q : X) (gaps : List X) : Type 0 where
  pub within : (x : K) → k.is_key x → covers k gaps x ≡ true → k.holds q x ≡ true
  pub lacked : (x : K) → k.is_key x → covers k gaps x ≡ true → covers k set x ≡ false
  pub all : (x : K) → k.is_key x → k.holds q x ≡ true → covers k set x ≡ false → covers k gaps x ≡ true

module _ {K X : Type 0} (k : RangeKind K X) (set : List X) (q : X) where
  pub set_gap_keys : (gaps : List X) → AreGaps k set q gaps → SetGapKeys k set q gaps
  set_gap_keys gaps are = record {
    within = λ x key h. first_so (k.holds q x) (not (covers k set x)) (sym (are.points x key) ∙ h);
    lacked = λ x key h. is_false (covers k set x) (second_so (k.holds q x) (not (covers k set x)) (sym (are.points x key) ∙ h));
    all = λ x key holds lacks. are.points x key ∙ and_from (k.holds q x) (not (covers k set x)) holds (ap not lacks);
  }
    where
      is_false : (b : Bool) → not b ≡ true → b ≡ false
      is_false false h = refl
      is_false true h = absurd (true≢false (sym h))

  -- a range without gaps is covered
  pub covered_without_gaps : AreGaps k set q [] → (x : K) → k.is_key x → k.holds q x ≡ true → covers k set x ≡ true
  covered_without_gaps are x key holds = by (covers k set x) refl
    where
      by : (b : Bool) → covers k set x ≡ b → b ≡ true
      by true h = refl
      by false h = absurd (true≢false (sym ((set_gap_keys [] are).all x key holds h)))

-- ---- equal sets

-- equal sets have the same keys
pub same_keys : {K X : Type 0} {k : RangeKind K X} {end_place : X → Option K} {part : EndpointOf X → EndpointOf X → X} (p : IsPlaced k end_place part) (left right : List X) → IsCanonicalSet k left → IsCanonicalSet k right → same_ranges k left right ≡ true → (x : K) → k.is_key x → covers k left x ≡ covers k right x
same_keys {k = k} p left right a b same x key =
    sym (valued_where_covered k left x)
    ∙ alike (value_at k (with_unit k left) x) (value_at k (with_unit k right) x) (alike_from_equal p (unit_equiv k) (with_unit k left) (with_unit k right) a b (sym (same_with_unit k left right) ∙ same) x key)
    ∙ valued_where_covered k right x
  where
    alike : (o u : Option ⊤) → option_eq (unit_eq k) o u ≡ true → is_some o ≡ is_some u
    alike None None h = refl
    alike None (Some v) h = absurd (true≢false (sym h))
    alike (Some v) None h = absurd (true≢false (sym h))
    alike (Some v) (Some w) h = refl
