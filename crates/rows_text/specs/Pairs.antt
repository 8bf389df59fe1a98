-- The steps of pairs of numbers below a bound, in lexicographic order.
use Rattle.std.specs.Prelude.{◌≡◌, ℕ, ◌+◌, ◌-◌, ◌<◌, ◌≤◌, ◌⊎◌, nat_lt, cond, if◌then◌else◌, Bool, true, false, Option, Some, None, MatchOption}
use Rattle.std.proofs.Common.{sym, refl, arith, inl, inr, ap, ◌∙◌}
use Rattle.std.proofs.lemmas.Bool.{ltb-true, ltb-false}
use Rattle.std.specs.declared.cmp.Ordering.{Ordering}
use Rattle.std.specs.declared.cmp.Ordering.TheVariants.{Less, Equal, Greater}
use Rattle.std.specs.Ordering.{nat_cmp, ordering_then}
use Rattle.std.specs.Cmp.{ranked, nat_cmp_is}
use Rattle.rangemap_steps.specs.Steps.{IsNext, HasGreater, HasSmaller, GivesSuccessors, GivesPredecessors}

-- both numbers lie below the bound
abbrev pub IsPair : ℕ → ℕ × ℕ → Type 0
IsPair bound p = (p.0 < bound) × (p.1 < bound)

-- the first numbers decide, and then the second
abbrev pub pair_cmp : ℕ × ℕ → ℕ × ℕ → Ordering
pair_cmp p q = ordering_then (nat_cmp p.0 q.0) (nat_cmp p.1 q.1)

-- the second number goes up; behind its last it starts again, and the first goes up
abbrev pub pair_after : ℕ → ℕ × ℕ → Option (ℕ × ℕ)
pair_after bound p = if nat_lt (p.1 + 1) bound then Some (p.0, p.1 + 1) else if nat_lt (p.0 + 1) bound then Some (p.0 + 1, 0) else None

-- the second number goes down; below its first it starts at the last, and the first goes down
abbrev pub pair_before : ℕ → ℕ × ℕ → Option (ℕ × ℕ)
pair_before bound p = if nat_lt 0 p.1 then Some (p.0, p.1 - 1) else if nat_lt 0 p.0 then Some (p.0 - 1, bound - 1) else None

-- ---- the order, as <

-- the first numbers decide, and where they are equal the second
abbrev Below : ℕ × ℕ → ℕ × ℕ → Type 0
Below p q = (p.0 < q.0) ⊎ ((p.0 ≡ q.0) × (p.1 < q.1))

below_by : (p q : ℕ × ℕ) (r s : Ordering) → nat_cmp p.0 q.0 ≡ r → nat_cmp p.1 q.1 ≡ s → ordering_then r s ≡ Less → Below p q
below_by p q Less s e f h = inl (ranked p.0 q.0 Less (sym e))
below_by p q Equal Less e f h = inr (ranked p.0 q.0 Equal (sym e), ranked p.1 q.1 Less (sym f))
below_by p q Equal Equal e f h = absurd (cc)
below_by p q Equal Greater e f h = absurd (cc)
below_by p q Greater s e f h = absurd (cc)

pair_below : (p q : ℕ × ℕ) → pair_cmp p q ≡ Less → Below p q
pair_below p q h = below_by p q (nat_cmp p.0 q.0) (nat_cmp p.1 q.1) refl refl h

pair_less : (p q : ℕ × ℕ) → Below p q → pair_cmp p q ≡ Less
pair_less p q (inl l) = ap (λ r. ordering_then r (nat_cmp p.1 q.1)) (sym (nat_cmp_is p.0 q.0 Less l))
pair_less p q (inr l) = ap (λ r. ordering_then r (nat_cmp p.1 q.1)) (sym (nat_cmp_is p.0 q.0 Equal l.0)) ∙ sym (nat_cmp_is p.1 q.1 Less l.1)

-- ---- neighbours

none_within : (a b c d : ℕ) → Below (a, b) (c, d) → Below (c, d) (a, b + 1) → ⊥
none_within a b c d (inl h) (inl k) = omega arith
none_within a b c d (inl h) (inr k) = omega (arith, k.0)
none_within a b c d (inr h) (inl k) = omega (arith, h.0)
none_within a b c d (inr h) (inr k) = omega (arith, h.1, k.1)

none_across : (m a b c d : ℕ) → m ≤ b + 1 → d < m → Below (a, b) (c, d) → Below (c, d) (a + 1, 0) → ⊥
none_across m a b c d top key (inl h) (inl k) = omega arith
none_across m a b c d top key (inl h) (inr k) = omega (arith, k.1)
none_across m a b c d top key (inr h) (inl k) = omega (arith, h.1)
none_across m a b c d top key (inr h) (inr k) = omega (arith, k.1)

none_above : (m a b c d : ℕ) → m ≤ b + 1 → m ≤ a + 1 → c < m → d < m → Below (a, b) (c, d) → ⊥
none_above m a b c d top last key other (inl h) = omega arith
none_above m a b c d top last key other (inr h) = omega (arith, h.1)

none_below : (a b c d : ℕ) → b ≤ 0 → a ≤ 0 → Below (c, d) (a, b) → ⊥
none_below a b c d low first (inl h) = omega arith
none_below a b c d low first (inr h) = omega (arith, h.1)

module _ (m : ℕ) where
  follows_by : (p : ℕ × ℕ) → IsPair m p → (s t : Bool) → nat_lt (p.1 + 1) m ≡ s → nat_lt (p.0 + 1) m ≡ t
      → MatchOption (cond s (Some (p.0, p.1 + 1)) (cond t (Some (p.0 + 1, 0)) None)) (¬ (HasGreater (IsPair m) pair_cmp p)) (λ q. IsNext (IsPair m) pair_cmp p q)
  follows_by p key true t e f = record {
    from_key = key;
    to_key = (key.0, ltb-true (p.1 + 1) m e);
    below = pair_less p (p.0, p.1 + 1) (inr (refl, omega arith));
    none_between = λ z z-key up down. none_within p.0 p.1 z.0 z.1 (pair_below p z up) (pair_below z (p.0, p.1 + 1) down);
  }
  follows_by p key false true e f = record {
    from_key = key;
    to_key = (ltb-true (p.0 + 1) m f, omega (arith, key.0));
    below = pair_less p (p.0 + 1, 0) (inl (omega arith));
    none_between = λ z z-key up down. none_across m p.0 p.1 z.0 z.1 (ltb-false (p.1 + 1) m e) z-key.1 (pair_below p z up) (pair_below z (p.0 + 1, 0) down);
  }
  follows_by p key false false e f = λ h. none_above m p.0 p.1 h.other.0 h.other.1 (ltb-false (p.1 + 1) m e) (ltb-false (p.0 + 1) m f) h.is_a_key.0 h.is_a_key.1 (pair_below p h.other h.greater)

  -- `pair_after` gives each pair its successor
  pub pair_follows : GivesSuccessors (IsPair m) pair_cmp (pair_after m)
  pair_follows p key = follows_by p key (nat_lt (p.1 + 1) m) (nat_lt (p.0 + 1) m) refl refl

  none_within_down : (a b c d : ℕ) → 0 < b → Below (a, b - 1) (c, d) → Below (c, d) (a, b) → ⊥
  none_within_down a b c d l (inl h) (inl k) = omega arith
  none_within_down a b c d l (inl h) (inr k) = omega (arith, k.0)
  none_within_down a b c d l (inr h) (inl k) = omega (arith, h.0)
  none_within_down a b c d l (inr h) (inr k) = omega (arith, h.1, k.1)

  none_across_down : (a b c d : ℕ) → b ≤ 0 → 0 < a → d < m → Below (a - 1, m - 1) (c, d) → Below (c, d) (a, b) → ⊥
  none_across_down a b c d low l key (inl h) (inl k) = omega arith
  none_across_down a b c d low l key (inl h) (inr k) = omega (arith, k.1)
  none_across_down a b c d low l key (inr h) (inl k) = omega (arith, h.1)
  none_across_down a b c d low l key (inr h) (inr k) = omega (arith, k.1)

  precedes_by : (p : ℕ × ℕ) → IsPair m p → (s t : Bool) → nat_lt 0 p.1 ≡ s → nat_lt 0 p.0 ≡ t
      → MatchOption (cond s (Some (p.0, p.1 - 1)) (cond t (Some (p.0 - 1, m - 1)) None)) (¬ (HasSmaller (IsPair m) pair_cmp p)) (λ q. IsNext (IsPair m) pair_cmp q p)
  precedes_by p key true t e f =
      let l : 0 < p.1 = ltb-true 0 p.1 e in
      record {
        from_key = (key.0, omega (arith, key.1));
        to_key = key;
        below = pair_less (p.0, p.1 - 1) p (inr (refl, omega arith));
        none_between = λ z z-key up down. none_within_down p.0 p.1 z.0 z.1 l (pair_below (p.0, p.1 - 1) z up) (pair_below z p down);
      }
  precedes_by p key false true e f =
      let l : 0 < p.0 = ltb-true 0 p.0 f in
      record {
        from_key = (omega (arith, key.0), omega (arith, key.0));
        to_key = key;
        below = pair_less (p.0 - 1, m - 1) p (inl (omega arith));
        none_between = λ z z-key up down. none_across_down p.0 p.1 z.0 z.1 (ltb-false 0 p.1 e) l z-key.1 (pair_below (p.0 - 1, m - 1) z up) (pair_below z p down);
      }
  precedes_by p key false false e f = λ h. none_below p.0 p.1 h.other.0 h.other.1 (ltb-false 0 p.1 e) (ltb-false 0 p.0 f) (pair_below h.other p h.smaller)

  -- `pair_before` gives each pair its predecessor
  pub pair_precedes : GivesPredecessors (IsPair m) pair_cmp (pair_before m)
  pair_precedes p key = precedes_by p key (nat_lt 0 p.1) (nat_lt 0 p.0) refl refl
