-- The first and the last pair of a list in chunks.
use Rattle.std.proofs.Common.{arith, ◌≡◌, suc, ◌-◌, ◌<◌, List, [], ◌∷◌, ◌++◌, length, get_or, Option, Some, None, refl, sym, ap, ◌∙◌, subst, append-nil, length-append}
use Rattle.std.specs.Map.Iter.{TakesLast}
use Rattle.std.specs.Prelude.{slice_get}
use Rattle.rangemap_core.proofs.ListLemmas.{Every-right}
use Rattle.rangemap_chunked.specs.Chunks.{AreFilled, whole}
use Rattle.rangemap_chunked.proofs.ChunkLemmas.{last_whole}

module _ {X : Type 0} where
  -- the ends of a list in chunks are those of the outer ones
  pub first_pair : (chunks : List (List X)) (chunk : List X) → 0 < length chunks → AreFilled chunks → chunk ≡ get_or chunks 0 chunk → slice_get chunk 0 ≡ slice_get (whole chunks) 0
  first_pair [] chunk l filled is = absurd (omega arith)
  first_pair ([] ∷ rest) chunk l filled is = absurd (omega (arith, filled.0))
  first_pair ((x ∷ xs) ∷ rest) chunk l filled is = ap (λ ys. slice_get ys 0) is

  past_first : (x : X) (ys : List X) → 0 < length ys → suc (length ys) - 1 ≡ suc (length ys - 1)
  past_first x ys l = omega (arith, l)

  end_behind : (xs ys : List X) → 0 < length ys → slice_get (xs ++ ys) (length (xs ++ ys) - 1) ≡ slice_get ys (length ys - 1)
  end_behind [] ys l = refl
  end_behind (x ∷ xs) ys l = let more = length-append xs ys in ap (slice_get (x ∷ (xs ++ ys))) (past_first x (xs ++ ys) (omega (arith, more, l))) ∙ end_behind xs ys l

  pub last_pair : (chunks : List (List X)) (chunk : List X) → 0 < length chunks → AreFilled chunks → chunk ≡ get_or chunks (length chunks - 1) chunk → slice_get chunk (length chunk - 1) ≡ slice_get (whole chunks) (length (whole chunks) - 1)
  last_pair [] chunk l filled is = absurd (omega arith)
  last_pair (x ∷ []) chunk l filled is = ap (λ ys. slice_get ys (length ys - 1)) (is ∙ sym (append-nil x))
  last_pair (x ∷ y ∷ rest) chunk l filled is =
      let more = length-append y (whole rest) in
      let here : suc (suc (length rest)) - 1 ≡ suc (suc (length rest) - 1) = omega arith in
      last_pair (y ∷ rest) chunk (omega arith) filled.1 (is ∙ ap (λ n. get_or (x ∷ y ∷ rest) n chunk) here) ∙ sym (end_behind x (y ++ whole rest) (omega (arith, more, filled.1.0)))

-- the last pair of the last chunk is that of all, where nothing is left behind
pub last_of_chunk : {A X : Type 0} (shows : A → X) (chunks rest : List (List X)) (front chunk back left : List X) (result : Option A) → chunks ≡ rest ++ chunk ∷ [] → AreFilled chunks → back ≡ [] → TakesLast shows chunk result left → TakesLast shows (front ++ (whole chunks ++ back)) result (front ++ (whole rest ++ left))
last_of_chunk shows chunks rest front chunk back left None is filled none taken =
    let some = Every-right (λ c. 0 < length c) rest (chunk ∷ []) (subst AreFilled is filled) in
    let size = ap length taken.0 in
    absurd (omega (arith, some.0, size))
last_of_chunk shows chunks rest front chunk back left (Some x) is filled none taken = last_whole chunks rest chunk is front back left (shows x) none taken
