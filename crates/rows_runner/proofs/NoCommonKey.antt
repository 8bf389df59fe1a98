-- Two ranges of which the first ends before the second starts.
use Rattle.std.proofs.Common.{◌≡◌, ◌&&◌, Bool, true, false, Ordering, Less, Equal, Greater, is_lt, is_le, refl, sym, ap, ◌∙◌, true≢false}
use Rattle.std.specs.Cmp.{first_so, second_so}
use Rattle.rangemap_core.specs.Ranges.{RangeKind}
use Rattle.rangemap_core.specs.engine.EndpointKinds.{lt_is}
use Rattle.rangemap_core.specs.engine.Intervals.{IsInterval, goes_past, reaches}
use Rattle.rangemap_core.specs.laws.Orders.{lt_le, lt_lt}

not_both : (a b : Bool) → (a ≡ true → b ≡ true → ⊥) → (a && b) ≡ false
not_both true true h = absurd (h refl refl)
not_both true false h = refl
not_both false b h = refl

module _ {K X : Type 0} {k : RangeKind K X} {has_end : Bool} (i : IsInterval k has_end) where
  -- a range that goes on past a key goes on past one that is no greater
  past_below : (end x y : K) (c : Ordering) → k.cmp x y ≡ c → is_le c ≡ true → (b : Bool) → goes_past b (k.cmp y end) ≡ true → goes_past b (k.cmp x end) ≡ true
  past_below end x y Less e le true h = ap is_le (lt_le i.total {a = x} {b = y} {c = end} e h)
  past_below end x y Less e le false h = ap is_lt (lt_lt i.total {a = x} {b = y} {c = end} e (lt_is _ h))
  past_below end x y Equal e le b h = ap (goes_past b) (i.total.congr x y end e) ∙ h
  past_below end x y Greater e le b h = absurd (true≢false (sym le))

  pub no_common_key : (r s : X) → reaches k has_end (k.end r) (k.start s) ≡ false → (x : K) → (k.holds r x && k.holds s x) ≡ false
  no_common_key r s apart x = not_both (k.holds r x) (k.holds s x) (λ in_r in_s.
      let goes : reaches k has_end (k.end r) x ≡ true = second_so (is_le (k.cmp (k.start r) x)) (reaches k has_end (k.end r) x) (sym (i.holds r x) ∙ in_r) in
      let starts : is_le (k.cmp (k.start s) x) ≡ true = first_so (is_le (k.cmp (k.start s) x)) (reaches k has_end (k.end s) x) (sym (i.holds s x) ∙ in_s) in
      true≢false (sym (past_below (k.end r) (k.start s) x (k.cmp (k.start s) x) refl starts has_end goes) ∙ apart))
