-- A range that reaches into several chunks overlaps a pair.
use Rattle.std.proofs.Common.{arith, ◌≡◌, inl, inr, ℕ, suc, ◌+◌, ◌<◌, ◌≤◌, Bool, true, false, ◌&&◌, cond, List, [], ◌∷◌, length, drop, get_or, Option, Some, ◌∙◌, subst, Less, is_lt, is_gt}
use Rattle.std.proofs.Math.Seq.{drop-cons}
use Rattle.std.proofs.lemmas.Bool.{cases_lt}
use Rattle.std.proofs.lemmas.List.{get_or_default}
use Rattle.std.specs.List.{AllWithin, filter}
use Rattle.std.specs.Cmp.{IsEquivalence}
use Rattle.rangemap_core.specs.Ranges.{RangeKind, IsStorable, overlapped}
use Rattle.rangemap_core.specs.engine.Endpoints.{IsPlaced, EndpointOf, asked}
use Rattle.rangemap_core.specs.engine.Places.{place_cmp}
use Rattle.rangemap_core.specs.engine.Stretch.{Every}
use Rattle.rangemap_core.proofs.PlaceLemmas.{S, places}
use Rattle.rangemap_core.proofs.PlaceOrderLemmas.{le_lt_trans}
use Rattle.rangemap_core.proofs.SearchLemmas.{Every-at}
use Rattle.rangemap_core.proofs.StoredLemmas.{all_storable}
use Rattle.rangemap_core.specs.engine.EndpointKinds.{lt_is}
use Rattle.rangemap_chunked.specs.Chunks.{AreChunks, IsPastStart, chunk_below, starts_below, whole}
use Rattle.rangemap_chunked.proofs.BorderLemmas.{Every-left}
use Rattle.rangemap_chunked.proofs.ChunkLemmas.{Every-chunk, filled_is, passed_first}
use Rattle.rangemap_chunked.proofs.StoreLemmas.{none_in_chunk}

module _ {K X : Type 0} {k : RangeKind K X} {end_place : X → Option K} {chunk : EndpointOf X → EndpointOf X → X} (p : IsPlaced k end_place chunk) {V : Type 0} {eq : V → V → Bool} (e : IsEquivalence eq)
    (chunks : List (List (X × V))) (h : AreChunks k eq chunks) (r : X) (stored : IsStorable k r) (at end : ℕ) (bound : end ≤ length chunks) (past : IsPastStart (S p eq) chunks r (at + 1))
    (begun : at + 1 < end → AllWithin (λ chunk. chunk_below (S p eq) (end_place r) chunk ≡ true) chunks 0 end) where
  met_between : at + 1 < end → overlapped k (whole chunks) r ≡ [] → ⊥
  met_between more none =
      let l : at + 1 < length chunks = omega (arith, more, bound) in
      let xs = get_or chunks (at + 1) [] in
      let b = filled_is xs (Every-at (λ (ys : List (X × V)). 0 < length ys) chunks h.filled (at + 1) [] l) in
      let all : Every (λ a. is_gt (place_cmp k.cmp (Some (k.start r)) (Some (k.start a.0))) ≡ false) (whole (get_or chunks (at + 1) [] ∷ drop (suc (at + 1)) chunks)) = subst (λ ps. Every (λ a. is_gt (place_cmp k.cmp (Some (k.start r)) (Some (k.start a.0))) ≡ false) (whole ps)) (drop-cons chunks (at + 1) [] l) past in
      let firsts : Every (λ a. is_gt (place_cmp k.cmp (Some (k.start r)) (Some (k.start a.0))) ≡ false) (b.0 ∷ b.1) = subst (Every (λ a. is_gt (place_cmp k.cmp (Some (k.start r)) (Some (k.start a.0))) ≡ false)) b.2 (Every-left _ xs (whole (drop (suc (at + 1)) chunks)) all) in
      let kept : Every (λ a. IsStorable k a.0) (b.0 ∷ b.1) = subst (Every (λ a. IsStorable k a.0)) b.2 (Every-chunk (λ a. IsStorable k a.0) chunks (all_storable k eq (whole chunks) h.canonical) (at + 1) [] l) in
      let below : place_cmp k.cmp (Some (k.start b.0.0)) (end_place r) ≡ Less = lt_is _ (passed_first (starts_below (S p eq) (end_place r)) xs b.0 b.1 true b.2 (begun more (at + 1) [] (omega arith) more)) in
      let above : place_cmp k.cmp (Some (k.start r)) (end_place b.0.0) ≡ Less = le_lt_trans (places p eq) (Some (k.start r)) (Some (k.start b.0.0)) (end_place b.0.0) firsts.0 (p.non_empty b.0.0 kept.0) in
      let meets : k.meets r b.0.0 ≡ true = p.meets r b.0.0 (asked k r stored) kept.0 ∙ (λ i. is_lt (above i) && is_lt (below i)) in
      let empty : filter (λ (a : X × V). k.meets r a.0) (b.0 ∷ b.1) ≡ [] = subst (λ ys. filter (λ (a : X × V). k.meets r a.0) ys ≡ []) b.2 (none_in_chunk (λ (a : X × V). k.meets r a.0) chunks (at + 1) xs l (get_or_default chunks (at + 1) [] xs l) none) in
      full b.0 b.1 meets empty
    where
      full : (a : X × V) (rest : List (X × V)) → k.meets r a.0 ≡ true → filter (λ (a : X × V). k.meets r a.0) (a ∷ rest) ≡ [] → ⊥
      full a rest m z = let whole_is : cond true (a ∷ filter (λ (a : X × V). k.meets r a.0) rest) (filter (λ (a : X × V). k.meets r a.0) rest) ≡ [] = subst (λ b. cond b (a ∷ filter (λ (a : X × V). k.meets r a.0) rest) (filter (λ (a : X × V). k.meets r a.0) rest) ≡ []) m z in absurd (cc)

  pub alone_where_none : overlapped k (whole chunks) r ≡ [] → end ≤ at + 1
  alone_where_none none = elim (cases_lt (at + 1) end) [ inl more ↦ absurd (met_between more none) | inr le ↦ le ]
