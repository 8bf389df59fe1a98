use Rattle.std.proofs.Common.{arith, ◌≡◌, ◌<◌, ◌∷◌, ◌∙◌, [], List, ap, length, subst, sym, true}
use Rattle.std.proofs.lemmas.Grind.{common_steps}
use Rattle.std.proofs.lemmas.List.{take_all}
use Rattle.rangemap_core.specs.Ranges.{IsCanonical, IsCanonOf, IsStorable, same_pairs, value_at}
use Rattle.rangemap_core.proofs.EqualListLemmas.{copy_is_canon}
use Rattle.rangemap_core.proofs.ListLemmas.{Every-append}
use Rattle.rangemap_core.proofs.SearchLemmas.{Every-at}
use Rattle.rangemap_core.proofs.StoredLemmas.{all_storable}
use Rattle.rangemap_chunked.specs.Chunks.{whole}
use Rattle.rangemap_chunked.proofs.CutLemmas.{canonical_chunk}
use Rattle.rangemap_chunked.proofs.CloneLemmas.{copied_more, every_more, same_filled, same_length}
use Rattle.rangemap_chunked.proofs.chunks.ChunksStoreMut.copy.Goals as goal

pub copy-requires-clause-canonical : goal.copy-requires-clause-canonical
copy-requires-clause-canonical g c =
    let k = g.Q.Kind.kind in
    let eq = g.V.PartialEq.eq in
    subst (IsCanonical k eq) (sym c.chunk-item.is) (canonical_chunk k eq c.deref-chunk-items.result.now c.loop-chunk.invariant.chunked.canonical c.loop-chunk.chunk-index c.chunk-item.result (omega arith))

pub loop-chunk-preserved : goal.loop-chunk-preserved
loop-chunk-preserved g c =
    let k = g.Q.Kind.kind in
    let eq = g.V.PartialEq.eq in
    let chunks = c.deref-chunk-items.result.now in
    let copies = c.loop-chunk.chunks.items in
    let n = c.loop-chunk.chunk-index in
    let chunk = c.chunk-item.result in
    let before = c.loop-chunk.invariant in
    let copy = c.in_ok-copy.field-0 in
    let made = c.in_ok-copy.ensures in
    let some : 0 < length chunk = subst (λ (xs : List (g.row.R.Denot × g.row.V.Denot)). 0 < length xs) (sym c.chunk-item.is) (Every-at (λ (xs : List (g.row.R.Denot × g.row.V.Denot)). 0 < length xs) chunks before.chunked.filled n chunk (omega arith)) in
    record {
      chunked = before.chunked;
      storable = rw c.push_reserved.ensures.items (every_more k eq chunks copies n chunk copy (omega arith) c.chunk-item.is (λ a. IsStorable k a.0) before.storable (all_storable k eq copy made.canon.canonical));
      filled = rw c.push_reserved.ensures.items (Every-append _ copies (copy ∷ []) before.filled (same_filled k eq chunk copy made.same some, tt));
      same = rw c.push_reserved.ensures.items (copied_more k eq chunks copies n chunk copy (omega arith) c.chunk-item.is before.same made.same);
      as_many = grind (arith, common_steps);
      room = grind (arith, common_steps);
    }

-- once all chunks were cloned
all_same : (g : _) (c : goal.After-loop-chunk g) → same_pairs g.Q.Kind.kind g.V.PartialEq.eq (whole c.deref-chunk-items.result.now) (whole c.loop-chunk.chunks.items) ≡ true
all_same g c = rw (take_all c.loop-chunk.chunk-index c.deref-chunk-items.result.now (omega arith)) at c.loop-chunk.invariant.same

copied : (g : _) (c : goal.After-loop-chunk g) → IsCanonOf g.Q.Kind.kind g.V.PartialEq.eq (value_at g.Q.Kind.kind (whole c.deref-chunk-items.result.now)) (whole c.loop-chunk.chunks.items)
copied g c =
    copy_is_canon g.Q.Kind.kind g.met.Q.Kind.placed g.V.PartialEq.eq g.met.V.Eq.laws (whole c.deref-chunk-items.result.now) (whole c.loop-chunk.chunks.items)
    c.loop-chunk.invariant.chunked.canonical c.loop-chunk.invariant.storable (all_same g c)

pub returns-clause-canon : goal.returns-clause-canon
returns-clause-canon g c = subst (λ (xs : List (g.row.R.Denot × g.row.V.Denot)). IsCanonOf g.Q.Kind.kind g.V.PartialEq.eq (value_at g.Q.Kind.kind xs) (whole c.loop-chunk.chunks.items)) (ap (λ (ps : List (List (g.row.R.Denot × g.row.V.Denot))). whole ps) c.deref-chunk-items.ensures.value ∙ c.self.view_is) (copied g c)

pub invariant_of-result : goal.invariant_of-result
invariant_of-result g c = (
  record { canonical = (copied g c).canonical; filled = c.loop-chunk.invariant.filled },
  c.self.invariant.1 ∙ ap (λ (ps : List (List (g.row.R.Denot × g.row.V.Denot))). length (whole ps)) (sym c.deref-chunk-items.ensures.value)
      ∙ sym (same_length g.Q.Kind.kind g.V.PartialEq.eq (whole c.deref-chunk-items.result.now) (whole c.loop-chunk.chunks.items) (all_same g c)),
)
