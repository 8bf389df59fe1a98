-- For callers: what the contracts of the sets say key by key, and loops over the gaps of a set.
use Rattle.std.proofs.Common.{◌≡◌, ℕ, ◌<◌, Bool, true, false, not, ◌&&◌, ◌||◌, cond, List, [], ◌∷◌, ◌++◌, map, Option, Some, None, is_some, Result, Ok, refl, sym, ap, subst, ◌∙◌, true≢false, arith, inl, inr}
use Rattle.std.proofs.Math.Bool.{or-false}
use Rattle.std.specs.List.{find}
use Rattle.std.specs.Option.{option_eq}
use Rattle.std.specs.Ordering.{nat_cmp}
use Rattle.std.specs.Prelude.{⊤}
use Rattle.std.specs.Cmp.{nat_cmp_total}
use Rattle.std.specs.declared.alloc.AllocError.{AllocError}
use Rattle.std.specs.declared.ops.RangeInclusive.{RangeInclusive}
use Rattle.rangemap_core.specs.Ranges.{RangeKind, AreGaps, closed, covers, same_ranges, unit_eq, value_at, with_unit}
use Rattle.rangemap_core.specs.engine.Endpoints.{IsPlaced, EndpointOf}
use Rattle.rangemap_core.specs.engine.ClosedEndpoints.{closed_part, closed_placed}
use Rattle.rangemap_core.specs.engine.ClosedPlaces.{closed_end_place}
use Rattle.rangemap_core.specs.Sets.{Adds, IsCanonicalSet, TakesOut, range_at}
use Rattle.rangemap_unions.proofs.UnitValueLemmas.{adds_last, covers_one, ranges_with}
use Rattle.rangemap.specs.CharLaws.{IsChar, char_after, char_before, char_follows, char_precedes}
use Rattle.rangemap_core.specs.laws.UnitPairs.{same_with_unit}
use Rattle.rangemap.proofs.CallerLemmas.{same_function}
use Rattle.rangemap_core.proofs.StoredKeyLemmas.{holds_start}
use Rattle.rangemap.proofs.GapLoopLemmas.{gaps_collected}
use Rattle.rangemap.proofs.Loops.{AsksForGaps}
use Rattle.rangemap.proofs.NumberKinds.{NumberKind}
use Rattle.rangemap.proofs.NumberLemmas.{IsRun, run_found}
use Rattle.rangemap_unions.proofs.SetLemmas.{copied, pair_found, valued_where_covered}
use Rattle.rangemap.proofs.SetRoundTripLemmas.{unit_equiv}

-- ---- keys of a set

module _ {K X : Type 0} (k : RangeKind K X) where
  module _ (old new : List X) (r : X) where
    -- after an insert, a key of the range is in the set, and any other as before
    pub added_within : Adds k old (r ∷ []) new → (x : K) → k.is_key x → k.holds r x ≡ true → covers k new x ≡ true
    added_within h x key e = h.points x key ∙ ap (λ b. b || covers k old x) (covers_one k r x ∙ e)

    pub added_outside : Adds k old (r ∷ []) new → (x : K) → k.is_key x → k.holds r x ≡ false → covers k new x ≡ covers k old x
    added_outside h x key e = h.points x key ∙ ap (λ b. b || covers k old x) (covers_one k r x ∙ e)

    -- after a remove, a key of the range is not, and any other as before
    pub taken_within : TakesOut k old r new → (x : K) → k.is_key x → k.holds r x ≡ true → covers k new x ≡ false
    taken_within h x key e = h.points x key ∙ ap (λ b. not b && covers k old x) e

    pub taken_outside : TakesOut k old r new → (x : K) → k.is_key x → k.holds r x ≡ false → covers k new x ≡ covers k old x
    taken_outside h x key e = h.points x key ∙ ap (λ b. not b && covers k old x) e

-- ---- ranges inserted into an empty set, one after another, as a loop gives them

-- Each item gave a range, and the set has the keys of all of them.
pub record AreInserted {K X : Type 0} (k : RangeKind K X) (items : List (Result X AllocError)) (set : List X) : Type 0 where
  pub taken : List X
  pub is : items ≡ map Ok taken
  pub made : Adds k [] taken set

module _ {K X : Type 0} (k : RangeKind K X) where
  pub none_inserted : AreInserted k [] []
  none_inserted = record { taken = []; is = refl; made = record { canonical = tt; points = λ x key. refl } }

  abbrev given : List X → List (Result X AllocError)
  given taken = map Ok taken

  given_last : (taken : List X) (r : X) → given taken ++ Ok r ∷ [] ≡ given (taken ++ r ∷ [])
  given_last [] r = refl
  given_last (s ∷ taken) r = ap (λ items. Ok s ∷ items) (given_last taken r)

pub one_more_inserted : {K X : Type 0} {k : RangeKind K X} {items : List (Result X AllocError)} {old new : List X} {item : Result X AllocError} {r : X} → AreInserted k items old → item ≡ Ok r → Adds k old (r ∷ []) new → AreInserted k (items ++ item ∷ []) new
one_more_inserted {k = k} {items} {old} {new} {item} {r} h ok added = record {
  taken = h.taken ++ r ∷ [];
  is = ap (λ xs. xs ++ item ∷ []) h.is ∙ ap (λ one. given k h.taken ++ one ∷ []) ok ∙ given_last k h.taken r;
  made = adds_last k [] old new h.taken r h.made added;
}

module _ {K X : Type 0} {k : RangeKind K X} {end_place : X → Option K} {part : EndpointOf X → EndpointOf X → X} (p : IsPlaced k end_place part) where
  -- ---- one list a set of keys

  -- two sets that have the same keys are equal, whatever their histories
  pub equal_sets : (left right : List X) → IsCanonicalSet k left → IsCanonicalSet k right → ((x : K) → k.is_key x → covers k left x ≡ covers k right x) → same_ranges k left right ≡ true
  equal_sets left right a b h =
      same_with_unit k left right
      ∙ same_function p (unit_equiv k) (value_at k (with_unit k right)) (with_unit k left) (with_unit k right)
      (copied k right left (record { canonical = a; points = h })) (copied k right right (record { canonical = b; points = λ x key. refl }))

  -- ---- gaps

  -- a range each of whose keys is in the set has no gaps
  pub no_set_gaps : (set : List X) (q : X) (gaps : List X) → AreGaps k set q gaps → ((x : K) → k.is_key x → k.holds q x ≡ true → covers k set x ≡ true) → gaps ≡ []
  no_set_gaps set q [] are all = refl
  no_set_gaps set q (g ∷ gaps) are all = absurd (in_none (k.holds q x) (covers k set x) (sym (are.points x key) ∙ here) (all x key))
    where
      x : K
      x = k.start g

      key : k.is_key x
      key = are.canonical.0.start_is_key

      here : covers k (g ∷ gaps) x ≡ true
      here = ap (λ b. is_some (cond b (Some g) (find (λ r. k.holds r x) gaps))) (holds_start p g are.canonical.0)

      in_none : (b c : Bool) → (b && not c) ≡ true → (b ≡ true → c ≡ true) → ⊥
      in_none true true h f = true≢false (sym h)
      in_none true false h f = true≢false (sym (f refl))
      in_none false c h f = true≢false (sym h)

-- A loop over the gaps `all` of the range q, as `for gap in set.gaps(&q)`.
module _ {K X : Type 0} {k : RangeKind K X} {end_place : X → Option K} {part : EndpointOf X → EndpointOf X → X} (p : IsPlaced k end_place part) (set : List X) (q : X) {items : List (Result X AllocError)} {result : Option (Result X AllocError)} (asks : AsksForGaps k set q items result) where
  -- at the end the items are the gaps
  pub set_gaps_collected : {collected : List X} → items ≡ map Ok collected → result ≡ None → AreGaps k set q collected
  set_gaps_collected {collected} alike none = subst (λ rs. AreGaps k rs q collected) (ranges_with k set) (gaps_collected p (with_unit k set) q (record { all = asks.all; are = subst (λ rs. AreGaps k rs q asks.all) (sym (ranges_with k set)) asks.are; asks = asks.asks }) alike none)

  -- so is a set into which they were inserted
  pub gaps_inserted : {made : List X} → AreInserted k items made → result ≡ None → AreGaps k set q made
  gaps_inserted h none = record {
    canonical = h.made.canonical;
    points = λ x key. h.made.points x key ∙ or-false (covers k h.taken x) ∙ (set_gaps_collected h.is none).points x key;
  }

-- ---- the stored range that has a number, as `get` gives it

-- where all values are equal, what has not one has none
unit_none : (m : Option ⊤) → option_eq (λ _ _. true) m (Some tt) ≡ false → m ≡ None
unit_none None h = refl
unit_none (Some u) h = absurd (true≢false h)

pub set_run_found : {K X : Type 0} (n : NumberKind K X) (set : List X) → IsCanonicalSet n.kind set → {x : K} → n.kind.is_key x → {r : X} → Some r ≡ range_at n.kind set x → IsRun n (λ y. covers n.kind set y ≡ true) (λ y. covers n.kind set y ≡ false) x r
set_run_found n set can {x} key {r} h =
    let run = run_found n {eq = unit_eq n.kind} (λ v w. refl) (with_unit n.kind set) can key (pair_found n.kind set x (Some r) h) in
    record {
      stored = run.stored;
      from = run.from;
      to = run.to;
      has = λ y from to. sym (valued_where_covered n.kind set y) ∙ ap is_some (run.has y from to);
      ends = λ end. sym (valued_where_covered n.kind set (n.behind r)) ∙ ap is_some (unit_none _ (run.ends end));
    }

-- ---- characters

abbrev pub closed_characters : RangeKind ℕ (RangeInclusive ℕ)
closed_characters = closed IsChar nat_cmp

-- what these lemmas, and those of `CallerLemmas`, ask of characters as `p`
pub placed_characters : IsPlaced closed_characters (closed_end_place char_after) (closed_part char_after char_before)
placed_characters = closed_placed IsChar nat_cmp nat_cmp_total char_after char_before char_follows char_precedes

pub below_last_character : (c : ℕ) → IsChar c → c < 0x110000
below_last_character c (inl low) = omega arith
below_last_character c (inr high) = high.1
