use Rattle.std.proofs.Common.{◌≡◌, ◌∙◌, ap, Equal, Greater, is_ge, is_lt, Less, not, Ordering, refl, Some, sym}
use Rattle.std.specs.Prelude.{slice_get}
use Rattle.rangemap_core.specs.engine.Shape.{shape_of}
use Rattle.rangemap_chunked.proofs.ChunkLemmas.{by_is}
use Rattle.rangemap_chunked.proofs.search.chunk_starts_by.Goals as goal

not_before : (r : Ordering) → is_ge r ≡ not (is_lt r)
not_before Less = refl
not_before Equal = refl
not_before Greater = refl

pub returns-in-Some : goal.returns-in-Some
returns-in-Some g c =
    let k = g.Q.Kind.kind in
    let reads = g.met.Q.Kind.reads in
    let pair = c.in-Some.pair.now in
    let key = c.args.sought.now.key.now in
    let start = c.start.result.now in
    let cmp_is : k.cmp key (k.start pair.0) ≡ c.cmp.result = ap (k.cmp key) (sym (c.start.ensures ∙ reads.start pair.0)) ∙ sym (reads.cmp key start) ∙ g.met.R.KeyRange.order key start ∙ sym c.cmp.ensures in
    c.is_ge.ensures ∙ not_before _ ∙ by_is (shape_of k g.Q.Kind.end_place g.V.PartialEq.eq) (Some key) c.args.chunk.now pair c.cmp.result (c.in-Some.ensures.value ∙ ap (λ xs. slice_get xs 0) c.as_slice.ensures) cmp_is
