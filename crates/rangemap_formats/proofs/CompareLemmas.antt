-- What the first items of two lists say of how the lists compare.
use Rattle.std.proofs.Common.{◌≡◌, Bool, true, false, List, ◌∷◌, refl, sym}
use Rattle.std.specs.Cmp.Lexicographic.{pointwise, slice_cmp}
use Rattle.std.specs.Ordering.{MatchOrdering, is_ne, ordering_then}
use Rattle.std.specs.declared.cmp.Ordering.{Ordering}
use Rattle.std.specs.declared.cmp.Ordering.TheVariants.{Less, Equal, Greater}

-- the lists differ where their first items do
pub differ : {A : Type 0} (same : A → A → Bool) (xs ys ps qs : List A) (x y : A) → xs ≡ x ∷ ps → ys ≡ y ∷ qs → same x y ≡ false → false ≡ pointwise same xs ys
differ same xs ys ps qs x y a b h = rw (a, b, h) refl

-- and are the same where what is behind them is, if these are
pub agree : {A : Type 0} (same : A → A → Bool) (xs ys ps qs : List A) (x y : A) → xs ≡ x ∷ ps → ys ≡ y ∷ qs → same x y ≡ true → pointwise same ps qs ≡ pointwise same xs ys
agree same xs ys ps qs x y a b h = rw (a, b, h) refl

decides : (r rest : Ordering) → is_ne r ≡ true → r ≡ ordering_then r rest
decides Less rest h = refl
decides Equal rest h = absurd cc
decides Greater rest h = refl

defers : (r rest : Ordering) → is_ne r ≡ false → ordering_then r rest ≡ rest
defers Less rest h = absurd cc
defers Equal rest h = refl
defers Greater rest h = absurd cc

module _ {A : Type 0} (cmp : A → A → Ordering) (xs ys ps qs : List A) (x y : A) (left : xs ≡ x ∷ ps) (right : ys ≡ y ∷ qs) where
  -- the first items decide where they are not equal
  pub firsts_decide : (found : Ordering) → found ≡ cmp x y → is_ne found ≡ true → found ≡ slice_cmp cmp xs ys
  firsts_decide found is h = rw (left, right, ← is) (decides found (slice_cmp cmp ps qs) h)

  -- and else what is behind them
  pub firsts_defer : (found : Ordering) → found ≡ cmp x y → is_ne found ≡ false → slice_cmp cmp ps qs ≡ slice_cmp cmp xs ys
  firsts_defer found is h = rw (left, right, ← is) (sym (defers found (slice_cmp cmp ps qs) h))

-- what `then_with` answers, where its function answers `second`
pub chained : (first second found : Ordering) (Says : Type 0) → MatchOrdering first (found ≡ Less) Says (found ≡ Greater) → (Says → found ≡ second) → found ≡ ordering_then first second
chained Less second found Says h is = h
chained Equal second found Says h is = is h
chained Greater second found Says h is = h
