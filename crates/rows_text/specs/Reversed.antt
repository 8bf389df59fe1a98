-- Steps in the reversed order: each is the other of the order itself.
use Rattle.std.specs.Prelude.{◌≡◌, Option, Some, None, MatchOption}
use Rattle.std.specs.declared.cmp.Ordering.{Ordering}
use Rattle.rangemap_steps.specs.Steps.{IsNext, HasGreater, HasSmaller, GivesSuccessors, GivesPredecessors}

-- the order in which the greater comes first
abbrev pub reversed : {K : Type 0} → (K → K → Ordering) → K → K → Ordering
reversed cmp x y = cmp y x

module _ {K : Type 0} (is_key : K → Type 0) (cmp : K → K → Ordering) where
  next_turned : (x y : K) → IsNext is_key cmp x y → IsNext is_key (reversed cmp) y x
  next_turned x y n = record {
    from_key = n.to_key;
    to_key = n.from_key;
    below = n.below;
    none_between = λ z z-key up down. n.none_between z z-key down up;
  }

  -- steps down lead up
  pub reversed_follows : (before : K → Option K) → GivesPredecessors is_key cmp before → GivesSuccessors is_key (reversed cmp) before
  reversed_follows before precedes x x-key = go (before x) (precedes x x-key)
    where
      go : (next : Option K) → MatchOption next (¬ (HasSmaller is_key cmp x)) (λ y. IsNext is_key cmp y x) → MatchOption next (¬ (HasGreater is_key (reversed cmp) x)) (λ y. IsNext is_key (reversed cmp) x y)
      go None n = λ h. n (record { other = h.other; is_a_key = h.is_a_key; smaller = h.greater })
      go (Some y) n = next_turned y x n

  -- and steps up lead down
  pub reversed_precedes : (after : K → Option K) → GivesSuccessors is_key cmp after → GivesPredecessors is_key (reversed cmp) after
  reversed_precedes after follows y y-key = go (after y) (follows y y-key)
    where
      go : (next : Option K) → MatchOption next (¬ (HasGreater is_key cmp y)) (λ x. IsNext is_key cmp y x) → MatchOption next (¬ (HasSmaller is_key (reversed cmp) y)) (λ x. IsNext is_key (reversed cmp) x y)
      go None n = λ h. n (record { other = h.other; is_a_key = h.is_a_key; greater = h.smaller })
      go (Some x) n = next_turned y x n
