-- What waits in a receive window: no number below the next one to be delivered.
use Rattle.std.proofs.Common.{arith, ◌≡◌, ◌∙◌, ◌≤◌, ◌&&◌, ◌||◌, ℕ, Bool, true, false, ap, max, nat_le, nat_lt, not, refl}
use Rattle.std.proofs.lemmas.Bool.Decides.{nat_tests}

-- the numbers of a range that do not come before the next
above : (next from to at number : ℕ) → at ≡ max from next → (nat_le at number && nat_lt number to) ≡ ((nat_le from number && nat_lt number to) && nat_le next number)
above next from to at number is = grind (arith, nat_tests, is)

-- what waits after they were noted
pub noted : (next from to at number : ℕ) {new : Bool} (old : Bool) → at ≡ max from next → new ≡ (old || (nat_le at number && nat_lt number to)) → new ≡ (old || ((nat_le from number && nat_lt number to) && nat_le next number))
noted next from to at number old is h = h ∙ ap (λ b. old || b) (above next from to at number is)

-- after numbers were noted that do not come before the next
pub still_waiting : (next from to number : ℕ) (old new : Bool) → new ≡ (old || (nat_le from number && nat_lt number to)) → next ≤ from → (old ≡ true → next ≤ number) → new ≡ true → next ≤ number
still_waiting next from to number true new h low kept there = kept refl
still_waiting next from to number false new h low kept there = grind (arith, nat_tests, h, there, low)

-- after those up to another number were dropped
pub waiting_behind : (next to number : ℕ) (old new : Bool) → new ≡ (old && not (nat_le next number && nat_lt number to)) → (old ≡ true → next ≤ number) → new ≡ true → (next ≤ number) × (to ≤ number)
waiting_behind next to number true new h kept there = let low = kept refl in (low, grind (arith, nat_tests, h, there, low))
waiting_behind next to number false new h kept there = absurd (grind (arith, h, there))
