-- The laws of the operators.
use Rattle.std.proofs.Common.{arith, ◌≡◌, ◌↔◌, IsTrue, Bool, true, false, not, ◌&&◌, ◌||◌, List, length, nat_eq, Option, refl, sym, ap₂, ◌∙◌}
use Rattle.std.proofs.lemmas.Bool.Decides.{nat_tests}
use Rattle.std.specs.Cmp.{both_ways}
use Rattle.std.proofs.Math.Bool.{and_assoc, and_comm, and-or_distrib_left, and_self, or-and_distrib_left, or_assoc, or_comm, or_self}
use Rattle.rangemap_core.specs.engine.Endpoints.{EndpointOf, IsPlaced}
use Rattle.rangemap_core.specs.Ranges.{RangeKind, IsCanonOfPoints, covers, same_ranges}
use Rattle.rangemap_core.specs.Sets.{AreCovered, AreOneOnly, AreWithout, IsCanonicalSet}
use Rattle.rangemap_containers.proofs.CoveredLemmas.{covered_where_none_left}
use Rattle.rangemap.specs.Joined.{exactly_one, joined, minus, other_of}
use Rattle.rangemap.specs.declared.range_set.operators.Operator.{Operator}
use Rattle.rangemap.specs.declared.range_set.operators.Operator.TheVariants.{Union, Intersection}
use Rattle.rangemap.proofs.SetRoundTripLemmas.{same_points}

-- the laws, key by key
module _ {K : Type 0} (f g h : K → Bool) (x : K) where
  pub joined_commutes : (o : Operator) → joined o f g x ≡ joined o g f x
  joined_commutes Union = or_comm (f x) (g x)
  joined_commutes Intersection = and_comm (f x) (g x)

  pub joined_associates : (o : Operator) → joined o (joined o f g) h x ≡ joined o f (joined o g h) x
  joined_associates Union = or_assoc (f x) (g x) (h x)
  joined_associates Intersection = and_assoc (f x) (g x) (h x)

  pub joined_distributes : (o : Operator) → joined o f (joined (other_of o) g h) x ≡ joined (other_of o) (joined o f g) (joined o f h) x
  joined_distributes Union = or-and_distrib_left (f x) (g x) (h x)
  joined_distributes Intersection = and-or_distrib_left (f x) (g x) (h x)

minus_or : (a b c : Bool) → (a && not (b || c)) ≡ ((a && not b) && (a && not c))
minus_or a b c = grind (arith, nat_tests)

minus_and : (a b c : Bool) → (a && not (b && c)) ≡ ((a && not b) || (a && not c))
minus_and a b c = grind (arith, nat_tests)

parts_of : (a b : Bool) → ((a && not b) || (a && b)) ≡ a
parts_of a b = grind (arith, nat_tests)

one_twice : (a b : Bool) → ((((a && not b) || (b && not a)) && not b) || (b && not ((a && not b) || (b && not a)))) ≡ a
one_twice a b = grind (arith, nat_tests)

one_of : (a b : Bool) → ((a && not b) || (b && not a)) ≡ ((a || b) && not (a && b))
one_of a b = grind (arith, nat_tests)

-- the laws of `-` and `^`, key by key
module _ {K : Type 0} (f g : K → Bool) (x : K) where
  pub minus_turns_over : (o : Operator) (h : K → Bool) → minus f (joined o g h) x ≡ joined (other_of o) (minus f g) (minus f h) x
  minus_turns_over Union h = minus_or (f x) (g x) (h x)
  minus_turns_over Intersection h = minus_and (f x) (g x) (h x)

  pub minus_makes_up : joined Union (minus f g) (joined Intersection f g) x ≡ f x
  minus_makes_up = parts_of (f x) (g x)

  pub exactly_one_cancels : exactly_one (exactly_one f g) g x ≡ f x
  exactly_one_cancels = one_twice (f x) (g x)

  pub exactly_one_is : exactly_one f g x ≡ minus (joined Union f g) (joined Intersection f g) x
  exactly_one_is = one_of (f x) (g x)

or_absorbs : (a b : Bool) → (a || (a && b)) ≡ a
or_absorbs true b = refl
or_absorbs false b = refl

and_absorbs : (a b : Bool) → (a && (a || b)) ≡ a
and_absorbs true b = refl
and_absorbs false b = refl

pub joined_idempotent : {K : Type 0} (o : Operator) (f : K → Bool) (x : K) → joined o f f x ≡ f x
joined_idempotent Union f x = or_self (f x)
joined_idempotent Intersection f x = and_self (f x)

pub joined_absorbs : {K : Type 0} (o : Operator) (f g : K → Bool) (x : K) → joined o f (joined (other_of o) f g) x ≡ f x
joined_absorbs Union f g x = or_absorbs (f x) (g x)
joined_absorbs Intersection f g x = and_absorbs (f x) (g x)

joined_alike : {K : Type 0} (o : Operator) (f m g n : K → Bool) (x : K) → f x ≡ m x → g x ≡ n x → joined o f g x ≡ joined o m n x
joined_alike Union f m g n x a b = ap₂ (λ p q. p || q) a b
joined_alike Intersection f m g n x a b = ap₂ (λ p q. p && q) a b

module _ {K X : Type 0} (k : RangeKind K X) where
  -- a canonical list is that of its own keys
  pub own : (rs : List X) → IsCanonicalSet k rs → IsCanonOfPoints k (covers k rs) rs
  own rs can = record { canonical = can; points = λ x key. refl }

  -- what an operator makes of sets that have the keys of the caller's tests
  pub joined_of : (o : Operator) (f g : K → Bool) (ps qs rs : List X) → IsCanonOfPoints k f ps → IsCanonOfPoints k g qs → IsCanonOfPoints k (joined o (covers k ps) (covers k qs)) rs → IsCanonOfPoints k (joined o f g) rs
  joined_of o f g ps qs rs a b h = record { canonical = h.canonical; points = λ x key. h.points x key ∙ joined_alike o (covers k ps) f (covers k qs) g x (a.points x key) (b.points x key) }

  -- what `-` makes of such sets
  pub minus_of : (f g : K → Bool) (ps qs rs : List X) → IsCanonOfPoints k f ps → IsCanonOfPoints k g qs → AreWithout k ps qs rs → IsCanonOfPoints k (minus f g) rs
  minus_of f g ps qs rs a b h = record { canonical = h.canonical; points = λ x key. h.points x key ∙ ap₂ (λ p q. p && not q) (a.points x key) (b.points x key) }

  -- what `^` makes of them
  pub exactly_one_of : (f g : K → Bool) (ps qs rs : List X) → IsCanonOfPoints k f ps → IsCanonOfPoints k g qs → AreOneOnly k ps qs rs → IsCanonOfPoints k (exactly_one f g) rs
  exactly_one_of f g ps qs rs a b h = record { canonical = h.canonical; points = λ x key. h.points x key ∙ ap₂ (λ p q. (p && not q) || (q && not p)) (a.points x key) (b.points x key) }

  -- `-` leaves nothing exactly where the first set is a subset
  pub none_left_where_subset : {end_place : X → Option K} {part : EndpointOf X → EndpointOf X → X} → IsPlaced k end_place part → (ps qs rest : List X) → AreWithout k ps qs rest
      → (subset none : Bool) → IsTrue subset ↔ AreCovered k (covers k ps) qs → none ≡ nat_eq (length rest) 0 → none ≡ subset
  none_left_where_subset p ps qs rest h subset none is e =
      let left = covered_where_none_left p (covers k ps) qs rest h in
      e ∙ both_ways (nat_eq (length rest) 0) subset (λ t. is.1 (left.0 t)) (λ t. left.1 (is.0 t))

  -- sets whose tests hold at the same keys are equal
  pub same_of : {end_place : X → Option K} {part : EndpointOf X → EndpointOf X → X} → IsPlaced k end_place part → (f g : K → Bool) (rs ss : List X) → IsCanonOfPoints k f rs → IsCanonOfPoints k g ss → ((x : K) → f x ≡ g x) → same_ranges k rs ss ≡ true
  same_of p f g rs ss a b same = same_points k p rs ss a.canonical (record { canonical = b.canonical; points = λ x key. b.points x key ∙ sym (same x) ∙ sym (a.points x key) })
