-- What the first and the last range of an item say of it.
use Rattle.std.proofs.Common.{arith, ◌≡◌, Ordering, Bool, false, List, ◌∷◌, Some, None, sym, ap, subst, ◌∙◌, true≢false, Less, Equal, is_lt}
use Rattle.std.proofs.lemmas.Bool.Decides.{nat_tests}
use Rattle.std.specs.Cmp as order
use Rattle.rangemap_core.specs.MadeRanges.{IsSame}
use Rattle.rangemap_core.specs.Ranges.{RangeKind}
use Rattle.rangemap_core.specs.Sets.{AreNonEmptyRanges}
use Rattle.rangemap_core.specs.engine.Intervals.{IsBetween, IsInterval, goes_past}
use Rattle.rangemap_core.specs.engine.Intervals as intervals
use Rattle.rangemap_core.specs.laws.Orders.{le_not_lt, not_lt}
use Rattle.rangemap_unions.specs.Items.{reaches}
use Rattle.rangemap_core.specs.operations.PlaceLaws.{HasPlaces}
use Rattle.rangemap_core.specs.operations.Places.{RangePlaces}

-- tests that fail together are one
same_test : (a b : Bool) → (a ≡ false → b ≡ false) → (b ≡ false → a ≡ false) → a ≡ b
same_test a b h g = grind (arith, nat_tests)

module _ {K X P : Type 0} {k : RangeKind K X} {has_end : Bool} {l : RangePlaces P X} {at cut : K → P} (i : IsInterval k has_end) (p : HasPlaces k l at cut) where
  -- whether one range starts before another ends is told by keys and by places alike
  pub reaches_places : (r s : X) → intervals.reaches k has_end (k.end r) (k.start s) ≡ reaches l r s
  reaches_places r s = same_test _ _
      (λ h. le_not_lt p.total (l.start_place s) (l.end_place r) (p.before r s (i.before_from r s h)))
      (λ h. i.before r s (p.before_from r s (not_lt p.total (l.start_place s) (l.end_place r) h)))

  -- clones of the start of one range and of the end of another
  module _ (a b : X) (start end : K) (starts : k.cmp (k.start a) start ≡ Equal) (ends : k.cmp (k.end b) end ≡ Equal) where
    -- make the item from the one to the other
    pub made_between : (range : X) → IsBetween k has_end start end (Some range) → IsSame k (l.between a b) range
    made_between range h = record {
      storable = h.0;
      starts = ap (λ x. k.cmp x (k.start range)) (p.between_start a b) ∙ ap (k.cmp (k.start a)) h.1 ∙ starts;
      ends = ap (λ x. k.cmp x (k.end range)) (p.between_end a b) ∙ ap (k.cmp (k.end b)) h.2 ∙ ends;
    }

    -- which there is where the first range starts before the last one ends
    pub some_between : l.order (l.start_place a) (l.end_place b) ≡ Less → IsBetween k has_end start end None → ⊥
    some_between up h =
        let keys : k.cmp (k.start a) (k.end b) ≡ k.cmp start end = order.alike_right i.total (k.end b) end (k.start a) ends ∙ i.total.congr (k.start a) start end starts in
        true≢false (sym (ap is_lt up) ∙ sym (reaches_places b a) ∙ ap (goes_past has_end) keys ∙ h)

-- ends are compared as keys are
pub ends_compared : {K X P : Type 0} {k : RangeKind K X} {l : RangePlaces P X} {at cut : K → P} (p : HasPlaces k l at cut) {cmp : K → K → Ordering} (keys : (x y : K) → k.cmp x y ≡ cmp x y)
    → (r s : X) (x y : K) → x ≡ k.end r → y ≡ k.end s → cmp x y ≡ l.order (l.end_place r) (l.end_place s)
ends_compared {k = k} p {cmp = cmp} keys r s x y x-is y-is = (λ i. cmp (x-is i) (y-is i)) ∙ sym (keys (k.end r) (k.end s)) ∙ p.ends r s

-- where no item is empty, the first of them starts before it ends
pub in_order : {K X P : Type 0} {k : RangeKind K X} {l : RangePlaces P X} {at cut : K → P} (p : HasPlaces k l at cut) (first last : X) (items rest : List X)
    → items ≡ l.between first last ∷ rest → AreNonEmptyRanges k items → l.order (l.start_place first) (l.end_place last) ≡ Less
in_order {k = k} {l = l} p first last items rest is all =
    let item = l.between first last in
    let made : AreNonEmptyRanges k (item ∷ rest) = subst (AreNonEmptyRanges k) is all in
    subst (λ q. l.order q (l.end_place last) ≡ Less) (p.between_start_place first last) (subst (λ q. l.order (l.start_place item) q ≡ Less) (p.between_end_place first last) (p.non_empty item made.0))
