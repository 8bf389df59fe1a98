-- Lists filtered, and filtered again.
use Rattle.std.proofs.Common.{◌≡◌, List, [], ◌∷◌, ◌++◌, Bool, true, false, cond, ◌&&◌, filter, refl, sym, ap, ◌∙◌, true≢false}
use Rattle.rangemap_core.specs.engine.Stretch.{Every}

module _ {X : Type 0} where
  pub filter_append : (f : X → Bool) (xs ys : List X) → filter f (xs ++ ys) ≡ filter f xs ++ filter f ys
  filter_append f [] ys = refl
  filter_append f (x ∷ xs) ys = go (filter_append f xs ys) (f x)
    where
      go : filter f (xs ++ ys) ≡ filter f xs ++ filter f ys → (b : Bool) → cond b (x ∷ filter f (xs ++ ys)) (filter f (xs ++ ys)) ≡ cond b (x ∷ filter f xs) (filter f xs) ++ filter f ys
      go again true = ap (λ zs. x ∷ zs) again
      go again false = again

  pub filter_both : (f g h : X → Bool) → ((x : X) → (g x && f x) ≡ h x) → (xs : List X) → filter f (filter g xs) ≡ filter h xs
  filter_both f g h e [] = refl
  filter_both f g h e (x ∷ xs) = go (filter_both f g h e xs) (g x) (h x) (e x)
    where
      go : filter f (filter g xs) ≡ filter h xs → (b d : Bool) → (b && f x) ≡ d → filter f (cond b (x ∷ filter g xs) (filter g xs)) ≡ cond d (x ∷ filter h xs) (filter h xs)
      go again true d p = λ i. cond (p i) (x ∷ again i) (again i)
      go again false d p = again ∙ ap (λ b. cond b (x ∷ filter h xs) (filter h xs)) p

  pub filter_no : (xs : List X) → filter (λ _. false) xs ≡ []
  filter_no [] = refl
  filter_no (x ∷ xs) = filter_no xs

  pub filter_all : (xs : List X) → filter (λ _. true) xs ≡ xs
  filter_all [] = refl
  filter_all (x ∷ xs) = ap (λ ys. x ∷ ys) (filter_all xs)

  -- two tests that agree on the list
  pub filter_same : (f g : X → Bool) (xs : List X) → Every (λ x. f x ≡ g x) xs → filter f xs ≡ filter g xs
  filter_same f g [] h = refl
  filter_same f g (x ∷ xs) h = let again = filter_same f g xs h.1 in λ i. cond (h.0 i) (x ∷ again i) (again i)

  pub filter_passes : (f : X → Bool) (xs : List X) → Every (λ x. f x ≡ true) (filter f xs)
  filter_passes f [] = tt
  filter_passes f (x ∷ xs) = go (filter_passes f xs) (f x) refl
    where
      go : Every (λ x. f x ≡ true) (filter f xs) → (b : Bool) → f x ≡ b → Every (λ x. f x ≡ true) (cond b (x ∷ filter f xs) (filter f xs))
      go again true h = (h, again)
      go again false h = again

  -- what holds of those that pass
  pub passing : (Q : X → Type 0) (f : X → Bool) (xs : List X) → Every Q (filter f xs) → Every (λ x. f x ≡ true → Q x) xs
  passing Q f [] h = tt
  passing Q f (x ∷ xs) h = go (passing Q f xs) (f x) refl h
    where
      go : (Every Q (filter f xs) → Every (λ x. f x ≡ true → Q x) xs) → (b : Bool) → f x ≡ b → Every Q (cond b (x ∷ filter f xs) (filter f xs)) → Every (λ x. f x ≡ true → Q x) (x ∷ xs)
      go again true e k = ((λ q. k.0), again k.1)
      go again false e k = ((λ q. absurd (true≢false (sym q ∙ e))), again k)
