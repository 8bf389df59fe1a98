-- One value of a list taken out, and put back.
use Rattle.std.proofs.Common.{arith, ◌≡◌, ℕ, ◌+◌, ◌<◌, List, [], ◌∷◌, ◌++◌, length, take, drop, get_or, sym, ap, ◌∙◌, length-append, length-drop}
use Rattle.std.proofs.Math.Seq.{drop-cons}
use Rattle.std.proofs.lemmas.List.{drop-drop, drop_at, length-take-le, take_at, take-append-drop}

module _ {X : Type 0} (xs : List X) (n : ℕ) (l : n < length xs) where
  pub one_at : length (take 1 (drop n xs)) ≡ 1
  one_at = let dropped = length-drop n xs in length-take-le 1 (drop n xs) (omega (arith, dropped, l))

  pub longer : (ys : List X) → length (ys ++ take 1 (drop n xs)) ≡ length ys + 1
  longer ys = length-append ys (take 1 (drop n xs)) ∙ ap (λ m. length ys + m) one_at

  taken : length (take n xs) ≡ n
  taken = length-take-le n xs (omega (arith, l))

  -- what is left of a list without the value
  first_of : take n (take n xs ++ drop (n + 1) xs) ≡ take n xs
  first_of = take_at (take n xs) (drop (n + 1) xs) n taken

  pub rest_of : drop n (take n xs ++ drop (n + 1) xs) ≡ drop (n + 1) xs
  rest_of = drop_at (take n xs) (drop (n + 1) xs) n taken

  pub put_back : take n xs ++ (take 1 (drop n xs) ++ drop (n + 1) xs) ≡ xs
  put_back = ap (λ ys. take n xs ++ ys) (ap (λ ys. take 1 (drop n xs) ++ ys) (sym (drop-drop 1 n xs)) ∙ take-append-drop 1 (drop n xs)) ∙ take-append-drop n xs

  module _ (x : X) (is : x ≡ get_or xs n x) where
    -- the value, as a list
    pub alone : x ∷ [] ≡ take 1 (drop n xs)
    alone = ap (λ (y : X). y ∷ []) is ∙ sym (ap (take 1) (drop-cons xs n x l))

    -- the list as it was
    pub back_again : (y : X) (left new : List X) → y ≡ x → left ≡ take n xs ++ drop (n + 1) xs → new ≡ take n left ++ y ∷ drop n left → new ≡ xs
    back_again y left new same left_is new_is =
        new_is ∙ (λ i. take n (left_is i) ++ same i ∷ drop n (left_is i)) ∙ (λ i. first_of i ++ x ∷ rest_of i) ∙ ap (λ ys. take n xs ++ (ys ++ drop (n + 1) xs)) alone ∙ put_back
