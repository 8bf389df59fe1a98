-- A kind whose ranges are read alike without steps tells alike whether they start before a query ends.
use Rattle.std.proofs.Common.{◌≡◌, Bool, ap, sym, ◌∙◌}
use Rattle.rangemap_core.specs.Ranges.{RangeKind}
use Rattle.rangemap_core.specs.engine.Intervals.{ReadsAs, goes_past, is_begun, reaches}

-- and whether a range goes on past a key
pub reaches_alike : {K X : Type 0} {k j : RangeKind K X} → ReadsAs k j → (has_end : Bool) (r : X) (x : K) → reaches k has_end (k.end r) x ≡ reaches j has_end (j.end r) x
reaches_alike {k = k} {j = j} read has_end r x = ap (goes_past has_end) (sym (read.cmp x (k.end r)) ∙ ap (j.cmp x) (sym (read.end r)))

module _ {K X : Type 0} {k j : RangeKind K X} (read : ReadsAs k j) (has_end : Bool) {V : Type 0} (q : X) where
  begun_at : (pair : X × V) → is_begun k has_end q pair ≡ is_begun j has_end q pair
  begun_at pair = reaches_alike read has_end q (k.start pair.0) ∙ ap (reaches j has_end (j.end q)) (sym (read.start pair.0))

  pub begun_alike : is_begun k has_end {V = V} q ≡ is_begun j has_end {V = V} q
  begun_alike = λ i pair. begun_at pair i
