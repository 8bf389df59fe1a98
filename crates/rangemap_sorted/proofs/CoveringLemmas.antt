-- A search among the starts finds the pair that has a key.
use Rattle.std.proofs.Common.{arith, ◌≡◌, ◌<◌, ◌≤◌, ◌-◌, ◌+◌, ◌∙◌, ℕ, Bool, true, false, ◌&&◌, List, length, get_or, Option, Some, None, ap, subst, sym}
use Rattle.std.proofs.lemmas.List.{length-map}
use Rattle.std.specs.List.Sorted.{IsPartitionedBy}
use Rattle.std.specs.Ordering.{is_le, is_lt}
use Rattle.rangemap_core.specs.Ranges.{RangeKind, IsCanonical, covering}
use Rattle.rangemap_core.specs.engine.Endpoints.{EndpointOf, IsPlaced}
use Rattle.rangemap_core.specs.engine.Intervals.{IsInterval, reaches}
use Rattle.rangemap_core.specs.laws.Orders.{not_lt}
use Rattle.rangemap_core.specs.engine.Shape.{PassesUpTo, has_place, place_covering, is_up_to, starts_by_key, starts_of}
use Rattle.rangemap_core.proofs.PlaceLemmas.{S, covering_is, holds_is, places, storable_here, to_spaced}
use Rattle.rangemap_sorted.proofs.OverlapLemmas.{of_not}
use Rattle.rangemap_core.proofs.StoredLemmas.{all_storable}
use Rattle.rangemap_core.proofs.SearchLemmas.{covering_if, covering_none, covering_unless, point_of_starts, starts_of_parted, starts_parted}

-- there are as many starts as pairs
pub as_many : {K X V : Type 0} (k : RangeKind K X) (xs : List (X × V)) (starts : List K) → starts ≡ starts_of k xs → length starts ≡ length xs
as_many {X = X} {V = V} k xs starts same = ap length same ∙ length-map xs (λ (b : X × V). k.start b.0)

module _ {K X V : Type 0} {k : RangeKind K X} {end_place : X → Option K} {part : EndpointOf X → EndpointOf X → X} (p : IsPlaced k end_place part) (eq : V → V → Bool)
    (x : K) (xs : List (X × V)) (canonical : IsCanonical k eq xs) where
  pub starts_rise : IsPartitionedBy (is_up_to k.cmp x) (starts_of k xs)
  starts_rise = starts_of_parted k x xs (starts_parted (S p eq) (places p eq) xs (to_spaced p eq xs canonical) (Some x))

  -- the first n starts are not after the key
  module _ (is_key : k.is_key x) (starts : List K) (n : ℕ) (same : starts ≡ starts_of k xs) (bound : n ≤ length starts) (point : PassesUpTo (is_up_to k.cmp x) starts n) where
    found : PassesUpTo (starts_by_key k x) xs n
    found = point_of_starts k x xs starts n same bound point

    by_places : covering k xs x ≡ place_covering (S p eq) xs (Some x)
    by_places = covering_is p eq xs x (all_storable _ eq xs canonical) is_key

    pub none_covers : n ≡ 0 → None ≡ covering k xs x
    none_covers none = sym (by_places ∙ covering_none (S p eq) (places p eq) xs (Some x) (rw none at found))

    -- a is the last of these pairs
    module _ {has_end : Bool} (interval : IsInterval k has_end) (a : X × V) (some : 0 < n) (is : a ≡ get_or xs (n - 1) a) where
      in_list : n - 1 < length xs
      in_list = omega (arith, bound, ap length same, length-map xs (λ (b : X × V). k.start b.0))

      last : PassesUpTo (starts_by_key k x) xs (n - 1 + 1)
      last =
          let more : n - 1 + 1 ≡ n = omega arith in
          rw more found

      has : (b : Bool) → k.holds a.0 x ≡ b → has_place (S p eq) a.0 (Some x) ≡ b
      has b h = sym (holds_is p eq a.0 x (storable_here p eq xs canonical (n - 1) a in_list is) is_key) ∙ h

      -- it starts no later than the key, so its end tells whether it has the key
      begun : is_le (k.cmp (k.start a.0) x) ≡ true
      begun =
          let up_to : starts_by_key k x a ≡ true = subst (λ (b : X × V). starts_by_key k x b ≡ true) (sym is) (found.0 (n - 1) a (omega arith) (omega arith)) in
          not_lt (interval.total) x (k.start a.0) (of_not (is_lt (k.cmp x (k.start a.0))) up_to)

      by_end : (b : Bool) → reaches k has_end (k.end a.0) x ≡ b → k.holds a.0 x ≡ b
      by_end b h = interval.holds a.0 x ∙ ap (λ t. t && reaches k has_end (k.end a.0) x) begun ∙ h

      pub last_covers : reaches k has_end (k.end a.0) x ≡ true → Some a ≡ covering k xs x
      last_covers h = sym (by_places ∙ covering_if (S p eq) (places p eq) xs (to_spaced p eq xs canonical) (Some x) (n - 1) a in_list is last (has true (by_end true h)))

      pub last_misses : reaches k has_end (k.end a.0) x ≡ false → None ≡ covering k xs x
      last_misses h = sym (by_places ∙ covering_unless (S p eq) (places p eq) xs (to_spaced p eq xs canonical) (Some x) (n - 1) a in_list is last (has false (by_end false h)))
