-- How many ranges a table of so many lines can have.
use Rattle.std.proofs.Common.{arith, ◌≡◌, ℕ, ◌+◌, ◌-◌, ◌<◌, ◌≤◌, Bool, true, false, List, [], ◌∷◌, length, cond, Some, None, option_map, is_some, ap, refl, subst, true≢false}
use Rattle.std.proofs.Math.Nat.{lt_of_not-le}
use Rattle.std.specs.Ordering.{nat_cmp}
use Rattle.std.specs.declared.ops.Range.{Range}
use Rattle.rangemap.specs.Ranges.{IsCanonical, covering, half_open}
use Rattle.rangemap.proofs.NumberKinds.{half_open_unsigned, unsigned}
use Rattle.rangemap.proofs.NumberLemmas.{forward}
use Rattle.examples.specs.Interrupts.{IsWithin, handler_of}

module _ (count : ℕ) (p : Range ℕ × ℕ) (rest : List (Range ℕ × ℕ)) (within : IsWithin count (p ∷ rest)) where
  not_held : (line : ℕ) → count ≤ line → (half_open nat_cmp).holds p.0 line ≡ true → ⊥
  not_held line past holds = true≢false (ap is_some (subst (λ b. option_map (λ (q : Range ℕ × ℕ). q.1) (cond b (Some p) (covering (half_open nat_cmp) rest line)) ≡ None) holds (within line past)))

  end_within : p.0.start < p.0.end → p.0.end ≤ count
  end_within some = omega (arith, lt_of_not-le {n = count + 1} {m = p.0.end} (λ past. not_held (p.0.end - 1) (omega arith) (half_open_unsigned.holds p.0 (p.0.end - 1) (omega arith) (omega arith))))

  rest_within : IsWithin count rest
  rest_within line past = go ((half_open nat_cmp).holds p.0 line) refl (within line past)
    where
      go : (b : Bool) → (half_open nat_cmp).holds p.0 line ≡ b → option_map (λ (q : Range ℕ × ℕ). q.1) (cond b (Some p) (covering (half_open nat_cmp) rest line)) ≡ None → handler_of rest line ≡ None
      go true holds none = absurd (not_held line past holds)
      go false holds none = none

-- from the start of the first range on there are no more ranges than lines
from_start : (eq : ℕ → ℕ → Bool) (count : ℕ) (p : Range ℕ × ℕ) (rest : List (Range ℕ × ℕ)) → IsCanonical (half_open nat_cmp) eq (p ∷ rest) → IsWithin count (p ∷ rest) → length (p ∷ rest) + p.0.start ≤ count
from_start eq count p [] canonical within =
    let some = forward half_open_unsigned p.0 canonical.0 in
    omega (arith, some, end_within count p [] within some)
from_start eq count p (q ∷ rest) canonical within =
    omega (arith, forward half_open_unsigned p.0 canonical.0, unsigned.at_most p.0.end q.0.start canonical.1.0, from_start eq count q rest canonical.2 (rest_within count p (q ∷ rest) within))

-- a canonical list has no more ranges than lines
pub at_most_lines : (eq : ℕ → ℕ → Bool) (count : ℕ) (list : List (Range ℕ × ℕ)) → IsCanonical (half_open nat_cmp) eq list → IsWithin count list → length list ≤ count
at_most_lines eq count [] canonical within = omega arith
at_most_lines eq count (p ∷ rest) canonical within = omega (arith, from_start eq count p rest canonical within)
