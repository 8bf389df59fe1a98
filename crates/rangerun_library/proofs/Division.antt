-- The words that calls of a splitting iterator give.
use Rattle.std.proofs.Common.{◌≡◌, ◌<◌, List, [], ◌∷◌, length, refl, sym, ap, ◌∙◌, arith, Option, Some, None}
use Rattle.std.proofs.lemmas.Iterator.{YieldsList}
use Rattle.std.specs.Iterator.Runs.{Run, Trigger}

-- What an iterator yields. Its clause on runs says which iterator is meant.
pub of_runs : {S A B : Type 0} {steps : S → Option A → S → Type 0} {s : S} {P : Run steps → Type 0} {v : A → B} {ys : List B} → ((p : Run steps) → Trigger p.len → p.from ≡ s → P p) → YieldsList steps v s ys → YieldsList steps v s ys
of_runs runs e = e

-- an item in front of what the others are
pub onto : {X : Type 0} {xs ys zs : List X} {x : X} → xs ≡ x ∷ ys → ys ≡ zs → xs ≡ x ∷ zs
onto {x = x} e f = e ∙ ap (λ l. x ∷ l) f

-- a list that begins with five items has more than four
pub more_than_four : {X : Type 0} {xs ys : List X} {a b c d e : X} → xs ≡ a ∷ b ∷ c ∷ d ∷ e ∷ ys → 4 < length xs
more_than_four is = omega (arith, ap length is)

module _ {S A B : Type 0} {steps : S → Option A → S → Type 0} {v : A → B} where
  -- where a call gives nothing, nothing was left
  pub none_left : {s t : S} (ys : List B) → YieldsList steps v s ys → (r : Option A) → r ≡ None → steps s r t → ys ≡ []
  none_left [] e r is h = refl
  none_left {t = t} (y ∷ ys) e r is h = absurd (e.runs.0 t (rw is at h))

  -- where a call gives an item, it is the first of those that were left, and the others are left then
  pub one_taken : {s t : S} (ys : List B) → YieldsList steps v s ys → (r : Option A) (x : A) → r ≡ Some x → steps s r t → (rest : List B) × (ys ≡ v x ∷ rest) × YieldsList steps v t rest
  one_taken {t = t} [] e r x is h = absurd (e.runs x t (rw is at h))
  one_taken {t = t} (y ∷ ys) e r x is h =
      let k = e.runs.1 x t (rw is at h) in
      (ys, ap (λ z. z ∷ ys) (sym k.0), record { runs = k.1 })

  -- where an item is left, a call gives one
  pub some_given : {s t : S} (ys : List B) → 0 < length ys → YieldsList steps v s ys → (r : Option A) → steps s r t → (x : A) × (r ≡ Some x)
  some_given {t = t} ys some e None h = let none = none_left {t = t} ys e None refl h in absurd (omega (arith, ap length none))
  some_given ys some e (Some x) h = (x, refl)
