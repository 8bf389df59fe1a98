-- Which keys the set has that an operator makes of two, which operator is the other one, and the call of a `replay` that makes an
-- operator.
use Rattle.std.specs.Prelude.{ℕ, Bool, not, ◌&&◌, ◌||◌}
use Rattle.rangemap.specs.declared.range_set.operators.Operator.{Operator}
use Rattle.rangemap.specs.declared.range_set.operators.Operator.TheVariants.{Union, Intersection}
use Rattle.rangemap.specs.declared.range_set.calls.Join.{Join}
use Rattle.rangemap.specs.declared.range_set.calls.Join.TheVariants as join
use Rattle.rangemap.specs.declared.range_set.calls.SetCall.{SetCall}
use Rattle.rangemap.specs.declared.range_set.calls.SetCall.TheVariants as call

-- what `|` makes, the keys of either set, or `&`, those of both
abbrev pub joined : {K : Type 0} → Operator → (K → Bool) → (K → Bool) → K → Bool
joined Union f g = λ x. f x || g x
joined Intersection f g = λ x. f x && g x

-- `&` for `|`, and `|` for `&`
abbrev pub other_of : Operator → Operator
other_of Union = Intersection
other_of Intersection = Union

-- what `-` makes, the keys that the first set has and the second lacks
abbrev pub minus : {K : Type 0} → (K → Bool) → (K → Bool) → K → Bool
minus f g = λ x. f x && not (g x)

-- what `^` makes, the keys that exactly one of the sets has
abbrev pub exactly_one : {K : Type 0} → (K → Bool) → (K → Bool) → K → Bool
exactly_one f g = λ x. (f x && not (g x)) || (g x && not (f x))

-- what any of the four makes
abbrev pub made_by : {K : Type 0} → Join → (K → Bool) → (K → Bool) → K → Bool
made_by join.Union f g = joined Union f g
made_by join.Intersection f g = joined Intersection f g
made_by join.Difference f g = minus f g
made_by join.SymmetricDifference f g = exactly_one f g

-- the call that makes it
abbrev pub joining : {X A : Type 0} → Join → ℕ → ℕ → SetCall X A
joining join.Union left right = call.Union left right
joining join.Intersection left right = call.Intersection left right
joining join.Difference left right = call.Difference left right
joining join.SymmetricDifference left right = call.SymmetricDifference left right
