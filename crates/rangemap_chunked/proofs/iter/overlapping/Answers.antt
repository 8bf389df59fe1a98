use Rattle.std.proofs.Common.{arith, rules, ◌≡◌, ◌∙◌, ◌+◌, ◌-◌, ◌<◌, List, ◌++◌, [], Some, ap, append-nil, drop, false, get_or, is_gt, length, subst, suc, sym, take, true}
use Rattle.std.specs.List.{take_while}
use Rattle.std.specs.List.Sorted.{IsPartitionedBy}
use Rattle.rangemap_core.specs.Ranges.{IsCanonical, overlapped}
use Rattle.rangemap_core.specs.engine.Places.{place_cmp}
use Rattle.rangemap_core.specs.engine.Stretch.{Every, starts_within}
use Rattle.rangemap_core.proofs.PlaceLemmas.{S}
use Rattle.rangemap_sorted.proofs.OverlapLemmas.{begun_first, begun_of_past}
use Rattle.rangemap_sorted.proofs.ReadLemmas.{begun_alike}
use Rattle.rangemap_chunked.specs.Chunks.{whole}
use Rattle.rangemap_chunked.proofs.CutLemmas.{canonical_chunk}
use Rattle.rangemap_chunked.proofs.OverlapLemmas.{first_begun, last_past, met_alone, met_over, pairs_at}
use Rattle.rangemap_chunked.proofs.iter.overlapping.Goals as goal

pub overlapping_tail-tail-requires : goal.overlapping_tail-tail-requires
overlapping_tail-tail-requires g c =
    let k = g.Q.Kind.kind in
    let eq = g.V.PartialEq.eq in
    subst (IsCanonical k eq) (sym (c.as_slice.ensures ∙ c.chunk-item.is)) (canonical_chunk k eq c.args.chunks.now c.requires.canonical 0 c.chunk-item.result (omega arith))

pub overlapping_tail-first-requires : goal.overlapping_tail-first-requires
overlapping_tail-first-requires g c =
    let k = g.Q.Kind.kind in
    let eq = g.V.PartialEq.eq in
    let chunks = c.args.chunks.now in
    let here : c.first_met_chunk-at.result < length chunks = search rules in
    subst (IsCanonical k eq) (sym (c.as_slice-2.ensures ∙ c.index-chunks-at.is)) (canonical_chunk k eq chunks c.requires.canonical c.first_met_chunk-at.result c.index-chunks-at.result here)

pub take_begun-requires-2 : goal.take_begun-requires-2
take_begun-requires-2 g c =
    let k = g.Q.Kind.kind in
    let eq = g.V.PartialEq.eq in
    let chunks = c.args.chunks.now in
    let query = c.args.query.now in
    let pairs = c.as_slice-3.result.now in
    let there : c.met_chunks_end-end.result - 1 < length chunks = omega (arith, c.met_chunks_end-end.ensures.bound, c.met_chunks_end-end.ensures.behind) in
    let canonical : IsCanonical k eq pairs = subst (IsCanonical k eq) (sym (c.as_slice-3.ensures ∙ c.index-chunks-last.is)) (canonical_chunk k eq chunks c.requires.canonical (c.met_chunks_end-end.result - 1) c.index-chunks-last.result there) in
    subst (λ test. IsPartitionedBy test pairs) (begun_alike g.met.Q.Kind.reads g.R.KeyRange.has_end {V = g.row.V.Denot} query)
    (begun_first g.met.Q.Kind.placed eq g.met.Q.Kind.interval query pairs canonical)

pub returns-then-end-at : goal.returns-then-end-at
returns-then-end-at g c =
    let k = g.Q.Kind.kind in
    let chunks = c.args.chunks.now in
    let query = c.args.query.now in
    let at = c.first_met_chunk-at.result in
    let end = c.met_chunks_end-end.result in
    let here : at < length chunks = search rules in
    let first = pairs_at chunks at here c.index-chunks-at.result c.as_slice-2.result.now c.as_slice-2.ensures c.index-chunks-at.is in
    c.between-then-end-at.ensures ∙ append-nil c.take_begun-then-end-at.result.now ∙ c.take_begun-then-end-at.ensures ∙ c.overlapping_tail-first.ensures.overlapped
    ∙ ap (λ (pairs : List (g.row.R.Denot × g.row.V.Denot)). overlapped k pairs query) first
    ∙ sym (met_alone g.met.Q.Kind.placed g.met.V.Eq.laws query c.known_ends.ensures chunks c.requires at end here c.met_chunks_end-end.ensures.bound c.first_met_chunk-at.ensures.clear c.met_chunks_end-end.ensures.clear (omega (arith, c.if-end-at.true)))

pub returns : goal.returns
returns g c =
    let k = g.Q.Kind.kind in
    let p = g.met.Q.Kind.placed in
    let eq = g.V.PartialEq.eq in
    let e = g.met.V.Eq.laws in
    let chunks = c.args.chunks.now in
    let query = c.args.query.now in
    let asked = c.known_ends.ensures in
    let at = c.first_met_chunk-at.result in
    let end = c.met_chunks_end-end.result in
    let bound = c.met_chunks_end-end.ensures.bound in
    let clear = c.first_met_chunk-at.ensures.clear in
    let behind = c.met_chunks_end-end.ensures.clear in
    let past = c.first_met_chunk-at.ensures.past in
    let more : at + 1 < end = omega (arith, c.if-end-at.false) in
    let begun = c.met_chunks_end-end.ensures.begun more in
    let here : at < length chunks = search rules in
    let there : end - 1 < length chunks = omega (arith, bound, more) in
    let is : end ≡ suc (end - 1) = omega (arith, more) in
    let tail = c.as_slice-2.result.now in
    let head = c.as_slice-3.result.now in
    let first : tail ≡ get_or chunks at [] = pairs_at chunks at here c.index-chunks-at.result tail c.as_slice-2.ensures c.index-chunks-at.is in
    let last : head ≡ get_or chunks (end - 1) [] = pairs_at chunks (end - 1) there c.index-chunks-last.result head c.as_slice-3.ensures c.index-chunks-last.is in
    let canonical : IsCanonical k eq head = subst (IsCanonical k eq) (sym last) (canonical_chunk k eq chunks c.requires.canonical (end - 1) [] there) in
    let of_first : c.overlapping_tail-first.result.now ≡ overlapped k (get_or chunks at []) query =
    c.overlapping_tail-first.ensures.all
    (subst (Every (λ (a : g.row.R.Denot × g.row.V.Denot). starts_within (S p eq) query a ≡ true)) (sym first) (first_begun p e query asked chunks c.requires at end here bound clear behind (end - 1) is (omega (arith, more)) past begun))
    ∙ ap (λ (pairs : List (g.row.R.Denot × g.row.V.Denot)). overlapped k pairs query) first in
    let of_last : c.take_begun-2.result.now ≡ overlapped k (get_or chunks (end - 1) []) query =
    c.take_begun-2.ensures
    ∙ subst (λ test. take_while test head ≡ overlapped k head query) (begun_alike g.met.Q.Kind.reads g.R.KeyRange.has_end {V = g.row.V.Denot} query)
    (begun_of_past p eq g.met.Q.Kind.interval query asked head canonical
    (subst (Every (λ (b : g.row.R.Denot × g.row.V.Denot). is_gt (place_cmp k.cmp (Some (k.start query)) (Some (k.start b.0))) ≡ false)) (sym last) (last_past p e query asked chunks c.requires at end here bound clear behind (end - 1) is (omega (arith, more)) past begun)))
    ∙ ap (λ (pairs : List (g.row.R.Denot × g.row.V.Denot)). overlapped k pairs query) last in
    c.between-2.ensures ∙ (λ i. of_first i ++ (whole (take (end - 1 - (at + 1)) (drop (at + 1) chunks)) ++ of_last i))
    ∙ sym (met_over p e query asked chunks c.requires at end here bound clear behind (end - 1) is (omega (arith, more)) past begun)
