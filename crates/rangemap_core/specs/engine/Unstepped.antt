-- Closed ranges read without the steps of keys.
use Rattle.std.specs.Prelude.{List, [], ◌∷◌}
use Rattle.std.specs.declared.cmp.Ordering.{Ordering}
use Rattle.std.specs.declared.ops.RangeInclusive.{RangeInclusive}
use Rattle.rangemap_core.specs.Ranges.{closed}
use Rattle.rangemap_core.specs.Sets.{IsCanonicalSet}

-- a canonical list of closed ranges is one where each value counts as a key: fewer touch
pub canonical_unstepped : {K : Type 0} (is_key : K → Type 0) (cmp : K → K → Ordering) (rs : List (RangeInclusive K)) → IsCanonicalSet (closed is_key cmp) rs → IsCanonicalSet (closed (λ _. Unit {0}) cmp) rs
canonical_unstepped is_key cmp [] h = tt
canonical_unstepped is_key cmp (r ∷ []) h = (record { start_is_key = tt; end_is_key = tt; non_empty = h.0.non_empty }, tt, tt)
canonical_unstepped is_key cmp (r ∷ s ∷ rs) h = (
  record { start_is_key = tt; end_is_key = tt; non_empty = h.0.non_empty },
  (h.1.0, λ touching. h.1.1 (touching.0, λ z key up down. touching.1 z tt up down)),
  canonical_unstepped is_key cmp (s ∷ rs) h.2,
)
