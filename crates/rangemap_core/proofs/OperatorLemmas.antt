-- What the operators make of point functions: where it is defined, and that it is alike for alike functions.
use Rattle.std.proofs.Common.{◌≡◌, Bool, true, not, ◌&&◌, ◌||◌, cond, Option, Some, None, sym, refl, true≢false, is_some}
use Rattle.std.specs.Option.{option_eq}
use Rattle.rangemap_core.specs.Ranges.{RangeKind, Alike}
use Rattle.rangemap_core.specs.Operators.{common, either, one_only, without}

-- where the operators are defined
pub either_some : {V : Type 0} (o u : Option V) → is_some (cond (is_some o) o u) ≡ (is_some o || is_some u)
either_some None u = refl
either_some (Some v) u = refl

pub common_some : {V : Type 0} (o u : Option V) → is_some (cond (is_some u) o None) ≡ (is_some o && is_some u)
common_some None None = refl
common_some None (Some w) = refl
common_some (Some v) None = refl
common_some (Some v) (Some w) = refl

pub without_some : {V : Type 0} (o u : Option V) → is_some (cond (is_some u) None o) ≡ (is_some o && not (is_some u))
without_some None None = refl
without_some None (Some w) = refl
without_some (Some v) None = refl
without_some (Some v) (Some w) = refl

pub one_only_some : {V : Type 0} (o u : Option V) → is_some (cond (is_some o) (cond (is_some u) None o) u) ≡ ((is_some o && not (is_some u)) || (is_some u && not (is_some o)))
one_only_some None None = refl
one_only_some None (Some w) = refl
one_only_some (Some v) None = refl
one_only_some (Some v) (Some w) = refl

-- operators on alike functions
module _ {K X V : Type 0} (k : RangeKind K X) (eq : V → V → Bool) where
  pub either_alike : (f m g n : K → Option V) → Alike k eq f m → Alike k eq g n → Alike k eq (either f g) (either m n)
  either_alike f m g n a b x key = go (f x) (m x) (g x) (n x) (a x key) (b x key)
    where
      go : (o p u w : Option V) → option_eq eq o p ≡ true → option_eq eq u w ≡ true → option_eq eq (cond (is_some o) o u) (cond (is_some p) p w) ≡ true
      go None None u w h i = i
      go None (Some v) u w h i = absurd (true≢false (sym h))
      go (Some v) None u w h i = absurd (true≢false (sym h))
      go (Some v) (Some z) u w h i = h

  pub common_alike : (f m g n : K → Option V) → Alike k eq f m → Alike k eq g n → Alike k eq (common f g) (common m n)
  common_alike f m g n a b x key = go (f x) (m x) (g x) (n x) (a x key) (b x key)
    where
      go : (o p u w : Option V) → option_eq eq o p ≡ true → option_eq eq u w ≡ true → option_eq eq (cond (is_some u) o None) (cond (is_some w) p None) ≡ true
      go o p None None h i = refl
      go o p None (Some v) h i = absurd (true≢false (sym i))
      go o p (Some v) None h i = absurd (true≢false (sym i))
      go o p (Some v) (Some z) h i = h

  pub without_alike : (f m g n : K → Option V) → Alike k eq f m → Alike k eq g n → Alike k eq (without f g) (without m n)
  without_alike f m g n a b x key = go (f x) (m x) (g x) (n x) (a x key) (b x key)
    where
      go : (o p u w : Option V) → option_eq eq o p ≡ true → option_eq eq u w ≡ true → option_eq eq (cond (is_some u) None o) (cond (is_some w) None p) ≡ true
      go o p None None h i = h
      go o p None (Some v) h i = absurd (true≢false (sym i))
      go o p (Some v) None h i = absurd (true≢false (sym i))
      go o p (Some v) (Some z) h i = refl

  pub one_only_alike : (f m g n : K → Option V) → Alike k eq f m → Alike k eq g n → Alike k eq (one_only f g) (one_only m n)
  one_only_alike f m g n a b x key = go (f x) (m x) (g x) (n x) (a x key) (b x key)
    where
      go : (o p u w : Option V) → option_eq eq o p ≡ true → option_eq eq u w ≡ true → option_eq eq (cond (is_some o) (cond (is_some u) None o) u) (cond (is_some p) (cond (is_some w) None p) w) ≡ true
      go None None u w h i = i
      go None (Some v) u w h i = absurd (true≢false (sym h))
      go (Some v) None u w h i = absurd (true≢false (sym h))
      go (Some v) (Some z) None None h i = h
      go (Some v) (Some z) None (Some w) h i = absurd (true≢false (sym i))
      go (Some v) (Some z) (Some u) None h i = absurd (true≢false (sym i))
      go (Some v) (Some z) (Some u) (Some w) h i = refl
