-- What becomes of a list in chunks when the pairs of a chunk are moved into the one before it.
use Rattle.std.proofs.Common.{arith, ◌≡◌, ℕ, suc, ◌+◌, ◌<◌, List, [], ◌∷◌, ◌++◌, length, take, drop, get_or, sym, ap, ◌∙◌, append_assoc, length-append, length-drop, add-one}
use Rattle.std.proofs.Math.ListN.{set}
use Rattle.std.proofs.lemmas.List.{drop_more, length-set, length-take-le}
use Rattle.rangemap_core.proofs.SearchLemmas.{Every-at}
use Rattle.rangemap_chunked.specs.Chunks.{AreFilled, whole}
use Rattle.rangemap_chunked.proofs.ChunkLemmas.{whole_around}
use Rattle.rangemap_chunked.proofs.HalvesLemmas.{AreHalves, halves_changed}
use Rattle.rangemap_chunked.proofs.OverLemmas.{over_filled, over_through, over_whole}

-- two chunks became one
pub record IsJoined {X : Type 0} (old new : List (List X)) : Type 0 where
  pub whole_is : whole new ≡ whole old
  pub filled : AreFilled old → AreFilled new
  pub one_less : length new + 1 ≡ length old

-- the pairs of the second chunk were moved into the first, and it was taken out
pub joined : {X : Type 0} {chunks front back : List (List X)} {at all : ℕ} (h : AreHalves chunks at (at + 1) front back all) (rest new : List (List X)) (first second : List X) → first ≡ get_or chunks at [] ++ get_or chunks (at + 1) [] → second ≡ []
    → new ≡ take (at + 1) (take all (set front at first ++ set back 0 second ++ rest)) ++ drop (at + 2) (take all (set front at first ++ set back 0 second ++ rest)) → IsJoined chunks new
joined {X} {chunks} {front} {back} {at} {all} h rest new first second first_is second_is new_is =
    let items = take all (set front at first ++ set back 0 second ++ rest) in
    let items_is = halves_changed h rest first second in
    let next : at + 2 ≡ at + 1 + 1 = omega arith in
    let over = over_through h.span first second items new items_is (ap length second_is) (new_is ∙ ap (λ n. take (at + 1) items ++ drop n items) next) in
    let here = get_or chunks at [] in
    let behind = get_or chunks (at + 1) [] in
    let left = whole (drop (suc (at + 1)) chunks) in
    let last : drop (suc at) chunks ≡ behind ∷ drop (suc (at + 1)) chunks = ap (λ n. drop n chunks) (sym (add-one at)) ∙ drop_more chunks (at + 1) [] h.span.bound ∙ ap (λ n. behind ∷ drop n chunks) (add-one (at + 1)) in
    let same = ap length items_is ∙ length-set (set chunks at first) (at + 1) second ∙ length-set chunks at first in
    let parts = ap length new_is ∙ length-append (take (at + 1) items) (drop (at + 2) items) in
    let before = length-take-le (at + 1) items (omega (arith, same)) in
    let dropped = length-drop (at + 2) items in
    record {
      whole_is =
          over_whole h.span over ∙ (λ i. whole (take at chunks) ++ (first_is i ++ (second_is i ++ left))) ∙ ap (λ xs. whole (take at chunks) ++ xs) (append_assoc here behind left)
          ∙ ap (λ ps. whole (take at chunks) ++ (here ++ whole ps)) (sym last) ∙ sym (whole_around chunks at [] (omega arith));
      filled = λ filled.
          let some : 0 < length here = Every-at (λ chunk. 0 < length chunk) chunks filled at [] (omega arith) in
          let long = ap length first_is ∙ length-append here behind in
          over_filled h.span over filled (omega (arith, some, long));
      one_less = omega (arith, same, parts, before, dropped);
    }
