-- Copies of the chunks of a list, one by one, are a copy of the list.
use Rattle.std.proofs.Common.{arith, ◌≡◌, ◌<◌, ◌+◌, Bool, true, List, [], ◌∷◌, ◌++◌, length, sym, ap, ◌∙◌, refl, true≢false, get_or, take, ℕ, suc, subst}
use Rattle.rangemap_core.specs.Ranges.{RangeKind, same_pairs}
use Rattle.rangemap_core.specs.engine.Stretch.{Every}
use Rattle.rangemap_core.proofs.ListLemmas.{Every-append}
use Rattle.rangemap_chunked.specs.Chunks.{whole}
use Rattle.rangemap_chunked.proofs.ChunkLemmas.{whole_last, whole_more}

module _ {K X V : Type 0} (k : RangeKind K X) (eq : V → V → Bool) where
  pub same_append : (xs bs cs ds : List (X × V)) → same_pairs k eq xs bs ≡ true → same_pairs k eq cs ds ≡ true → same_pairs k eq (xs ++ cs) (bs ++ ds) ≡ true
  same_append [] [] cs ds h s = s
  same_append [] (b ∷ bs) cs ds h s = absurd (true≢false (sym h))
  same_append (a ∷ xs) [] cs ds h s = absurd (true≢false (sym h))
  same_append (a ∷ xs) (b ∷ bs) cs ds h s = grind (arith, h, same_append xs bs cs ds)

  pub same_length : (xs bs : List (X × V)) → same_pairs k eq xs bs ≡ true → length bs ≡ length xs
  same_length [] [] h = refl
  same_length [] (b ∷ bs) h = absurd (true≢false (sym h))
  same_length (a ∷ xs) [] h = absurd (true≢false (sym h))
  same_length (a ∷ xs) (b ∷ bs) h = let rest : same_pairs k eq xs bs ≡ true = grind (arith, h) in ap suc (same_length xs bs rest)

  pub same_filled : (xs bs : List (X × V)) → same_pairs k eq xs bs ≡ true → 0 < length xs → 0 < length bs
  same_filled xs bs h l = let same = same_length xs bs h in omega (arith, same, l)

  -- one more chunk
  module _ (chunks copies : List (List (X × V))) (n : ℕ) (chunk copy : List (X × V)) (l : n < length chunks) (is : chunk ≡ get_or chunks n chunk) where
    pub copied_more : same_pairs k eq (whole (take n chunks)) (whole copies) ≡ true → same_pairs k eq chunk copy ≡ true → same_pairs k eq (whole (take (n + 1) chunks)) (whole (copies ++ copy ∷ [])) ≡ true
    copied_more h s =
        (λ i. same_pairs k eq ((whole_more chunks n chunk l ∙ ap (λ ys. whole (take n chunks) ++ ys) (sym is)) i) (whole_last copies copy i))
        ∙ same_append (whole (take n chunks)) (whole copies) chunk copy h s

    pub every_more : (Q : X × V → Type 0) → Every Q (whole copies) → Every Q copy → Every Q (whole (copies ++ copy ∷ []))
    every_more Q h c = subst (Every Q) (sym (whole_last copies copy)) (Every-append Q (whole copies) copy h c)
