-- ASCII texts.
use Rattle.std.proofs.Common.{arith, rules, refl, suc, ◌≡◌, ℕ, List, [], ◌∷◌, Bor, Some, true, length, slice_get}
use Rattle.std.specs.Char.{is_ascii}
use Rattle.std.specs.Str.{IsAscii}
use Rattle.std.specs.List.{list_all}

all_ascii : (bytes : List ℕ) → IsAscii bytes → list_all is_ascii bytes ≡ true
all_ascii [] h = refl
all_ascii (b ∷ bs) h = let first = h 0 in let rest = all_ascii bs (λ i. h (suc i)) in search (rules, first, rest)

-- a list of one pair whose value is ASCII
pub ascii_alone : {X : Type 0} (list : List (X × Bor (List ℕ))) (x : X) (text : Bor (List ℕ)) → length list ≡ 1 → slice_get list 0 ≡ Some (x, text) → IsAscii text.now → list_all (λ p. list_all is_ascii p.1.now) list ≡ true
ascii_alone [] x text one first ascii = refl
ascii_alone (p ∷ []) x text one first ascii = let all = all_ascii text.now ascii in search (rules, first, all)
ascii_alone (p ∷ q ∷ ps) x text one first ascii = let no : ⊥ = omega (arith, one) in absurd no
