use Rattle.std.proofs.Common.{arith, rules, ◌≡◌, ℕ, ◌∙◌, List, [], ◌∷◌, ◌++◌, Option, Some, None, MatchOption, subst, sym, append-nil, length, option_map, unwrap_or}
use Rattle.std.specs.Map.Iter.{TakesLast}
use Rattle.std.specs.Vec.Iter.{into_iter_items}
use Rattle.rangemap_chunked.specs.Chunks.{AreFilled, whole}
use Rattle.rangemap_chunked.proofs.EndLemmas.{last_of_chunk}
use Rattle.rangemap_chunked.proofs.into_iter.IntoIterCursor.take_last.Goals as goal

-- the last pair of the chunk that is begun, or of what is left at the front, is the last of all
last_taken : {X : Type 0} (all front front' back begun left : List X) (chunks rest : List (List X)) (m n : ℕ) (chunk : Option (List X)) (pair : Option X)
    → all ≡ front ++ (whole chunks ++ back) → back ≡ [] → AreFilled chunks → m ≡ length chunks → n ≡ length rest
    → MatchOption chunk ((m ≡ 0) × (n ≡ 0)) (λ c. chunks ≡ rest ++ c ∷ [])
    → MatchOption chunk ((begun ≡ front) × (front' ≡ [])) (λ c. (begun ≡ c) × (front' ≡ front))
    → TakesLast (λ p. p) begun pair left → TakesLast (λ p. p) all pair (front' ++ (whole rest ++ left))
last_taken all front front' back begun left (x ∷ xs) rest m n None pair is none filled here there steps begins taken = absurd (omega (arith, here, steps.0))
last_taken all front front' back begun left [] (x ∷ xs) m n None pair is none filled here there steps begins taken = absurd (omega (arith, there, steps.1))
last_taken all front front' back begun left [] [] m n None None is none filled here there steps begins taken = (
  is ∙ (λ i. front ++ none i) ∙ append-nil front ∙ sym begins.0 ∙ taken.0,
  (λ i. begins.1 i ++ taken.1 i),
)
last_taken all front front' back begun left [] [] m n None (Some x) is none filled here there steps begins taken =
    is ∙ (λ i. front ++ none i) ∙ append-nil front ∙ sym begins.0 ∙ taken ∙ (λ i. (sym begins.1 i ++ left) ++ x ∷ [])
last_taken {X = X} all front front' back begun left chunks rest m n (Some c) pair is none filled here there steps begins taken =
    subst (λ (xs : List X). TakesLast (λ p. p) xs pair (front' ++ (whole rest ++ left))) (sym is)
    (subst (λ (xs : List X). TakesLast (λ p. p) (front ++ (whole chunks ++ back)) pair (xs ++ (whole rest ++ left))) (sym begins.1)
    (last_of_chunk (λ p. p) chunks rest front c back left pair steps filled none (subst (λ (xs : List X). TakesLast (λ p. p) xs pair left) begins.0 taken)))

pub returns : goal.returns
returns g c =
    last_taken _ (unwrap_or (option_map into_iter_items c.self.inside.front) []) (unwrap_or (option_map into_iter_items c.next_pairs.new.other_end) []) (unwrap_or (option_map into_iter_items c.self.inside.back) [])
    (unwrap_or (option_map into_iter_items c.next_pairs.result) []) (unwrap_or (option_map into_iter_items c.last_of-2.new.pairs) [])
    (into_iter_items c.self.inside.chunks) (into_iter_items c.next_back.new.self) _ _ c.next_back.result c.last_of-2.result
    (sym c.self.view_is) c.in_default.ensures.0 c.self.invariant (search rules) (search rules) c.next_back.ensures.steps c.next_pairs.ensures c.last_of-2.ensures
