-- Ends of a range with a key in it, as the library and as the program tell them.
use Rattle.std.proofs.Common.{arith, ◌≡◌, ℕ, Bool, true, false, sym, ap, ◌∙◌}
use Rattle.std.proofs.lemmas.Bool.Decides.{nat_tests}
use Rattle.std.specs.Ordering.{nat_cmp}
use Rattle.rangemap_core.specs.Ranges.{IsStorable, RangeKind}
use Rattle.rangemap_core.specs.engine.Intervals.{IsInterval, goes_past}
use Rattle.rangerun_library.specs.Words.{holds_key}

goes_past_holds : (has_end : Bool) (a b : ℕ) → goes_past has_end (nat_cmp a b) ≡ holds_key has_end a b
goes_past_holds true a b = grind (arith, nat_tests)
goes_past_holds false a b = grind (arith, nat_tests)

-- a range that may be stored holds a key between its ends
pub storable_holds : {X : Type 0} (read : RangeKind ℕ X) (has_end : Bool) → IsInterval read has_end → ((x y : ℕ) → read.cmp x y ≡ nat_cmp x y) → (range : X) (start end : ℕ) → IsStorable read range → read.start range ≡ start → read.end range ≡ end → holds_key has_end start end ≡ true
storable_holds read has_end interval order range start end stored starts ends =
    sym (goes_past_holds has_end start end)
    ∙ ap (goes_past has_end) (sym (ap (λ x. nat_cmp x end) starts) ∙ sym (ap (nat_cmp (read.start range)) ends) ∙ sym (order (read.start range) (read.end range)))
    ∙ interval.non_empty range stored.non_empty
