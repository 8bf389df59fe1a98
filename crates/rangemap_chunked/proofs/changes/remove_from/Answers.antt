use Rattle.std.proofs.Common.{arith, rules, ◌≡◌, ◌∙◌, ◌<◌, inl, inr, [], List, ap, get_or, length, refl, subst, sym, true, true≢false}
use Rattle.std.proofs.lemmas.List.{get_or_default}
use Rattle.std.specs.List.{AllWithin}
use Rattle.rangemap_core.specs.Ranges.{IsCanonOf, erase, overlapped, value_at}
use Rattle.rangemap_core.proofs.PlaceLemmas.{S, places}
use Rattle.rangemap_chunked.specs.Chunks.{IsCounted, chunk_by, whole}
use Rattle.rangemap_chunked.proofs.StoreLemmas.{none_in_chunk}
use Rattle.rangemap_chunked.proofs.TouchLemmas.{below_by}
use Rattle.rangemap_chunked.proofs.changes.remove_from.Goals as goal
use Rattle.rangemap_chunked.proofs.changes.remove_from.Goals.{After-may_overflow}

-- the chunks, as they were lent to the look for an overflow
lent : (g : _) (c : After-may_overflow g) → overlapped g.Q.Kind.kind (whole c.args.chunks.now.items) c.args.range ≡ [] → overlapped g.Q.Kind.kind (whole c.deref-3.result.now) c.args.range ≡ []
lent g c = subst (λ (ps : List (List (g.row.R.Denot × g.row.V.Denot))). overlapped g.Q.Kind.kind (whole ps) c.args.range ≡ []) (sym c.deref-3.ensures.value)

-- the chunk where the range starts
here : (g : _) (c : After-may_overflow g) → overlapped g.Q.Kind.kind (whole c.args.chunks.now.items) c.args.range ≡ [] → overlapped g.Q.Kind.kind (get_or c.args.chunks.now.items c.first_met_chunk-at.result []) c.args.range ≡ []
here g c none =
    let xs = c.args.chunks.now.items in
    let at = c.first_met_chunk-at.result in
    let l : at < length xs = search rules in
    none_in_chunk (λ (pair : (g.row.R.Denot × g.row.V.Denot)). g.Q.Kind.kind.meets c.args.range pair.0) xs at (get_or xs at []) l (get_or_default xs at [] (get_or xs at []) l) none

pub returns-then-may_overflow-clause-meets_nothing : goal.returns-then-may_overflow-clause-meets_nothing
returns-then-may_overflow-clause-meets_nothing g c = λ none. absurd (c.may_overflow.ensures.refused c.if-may_overflow.true (lent g (goal.at.returns-then-may_overflow-clause-meets_nothing g c).After-may_overflow none))

pub returns-in_err-counts-clause-meets_nothing : goal.returns-in_err-counts-clause-meets_nothing
returns-in_err-counts-clause-meets_nothing g c = λ none. absurd (true≢false (sym (c.in_err-counts.ensures.meets_nothing refl (c.may_overflow.ensures.alone (lent g (goal.at.returns-in_err-counts-clause-meets_nothing g c).After-may_overflow none)) (here g (goal.at.returns-in_err-counts-clause-meets_nothing g c).After-may_overflow none)).0))

pub returns-clause-meets_nothing : goal.returns-clause-meets_nothing
returns-clause-meets_nothing g c = λ none.
    (refl, c.settle.ensures.whole ∙ ap (λ (ps : List (List (g.row.R.Denot × g.row.V.Denot))). whole ps) (c.in_ok-counts.ensures.meets_nothing refl (c.may_overflow.ensures.alone (lent g (goal.at.returns-clause-meets_nothing g c).After-may_overflow none)) (here g (goal.at.returns-clause-meets_nothing g c).After-may_overflow none)).1)

pub change_over-requires-clause-begun : goal.change_over-requires-clause-begun
change_over-requires-clause-begun g c = λ more.
    subst (λ (ps : List (List (g.row.R.Denot × g.row.V.Denot))). AllWithin (λ (chunk : List (g.row.R.Denot × g.row.V.Denot)). chunk_by (S g.met.Q.Kind.placed g.V.PartialEq.eq) (g.Q.Kind.end_place c.args.range) chunk ≡ true) ps 0 c.met_chunks_end-end.result) c.deref-2.ensures.value
    (λ k d l m. below_by (S g.met.Q.Kind.placed g.V.PartialEq.eq) (places g.met.Q.Kind.placed g.V.PartialEq.eq) (g.Q.Kind.end_place c.args.range) (get_or c.deref-2.result.now k d) (c.met_chunks_end-end.ensures.begun more k d l m))

pub settle-requires-clause-before : goal.settle-requires-clause-before
settle-requires-clause-before g c = c.in_ok-counts.ensures.filled.before

pub settle-requires-clause-behind : goal.settle-requires-clause-behind
settle-requires-clause-behind g c = c.in_ok-counts.ensures.filled.behind

pub returns-clause-fits : goal.returns-clause-fits
returns-clause-fits g c =
    let after = ap (λ (xs : List (g.row.R.Denot × g.row.V.Denot)). length xs) c.settle.ensures.whole in
    elim (c.may_overflow.ensures.allowed c.if-may_overflow.false) [
      | inl less ↦ omega (arith, less, after, c.in_ok-counts.ensures.counted.sum, c.in_ok-counts.ensures.counted.growth, c.in_ok-counts.ensures.counted.some, c.requires.chunked.1)
      | inr t ↦
          let here = subst (λ (ps : List (List (g.row.R.Denot × g.row.V.Denot))). overlapped g.Q.Kind.kind (get_or ps c.first_met_chunk-at.result []) c.args.range ≡ []) c.deref-3.ensures.value t.1 in
          let same = ap (λ (ps : List (List (g.row.R.Denot × g.row.V.Denot))). length (whole ps)) (c.in_ok-counts.ensures.meets_nothing refl t.0 here).1 in
          omega (arith, after, same, c.requires.chunked.1, c.ranges.len.fits)
    ]

pub returns-clause-ok : goal.returns-clause-ok
returns-clause-ok g c =
    let k = g.Q.Kind.kind in
    subst (λ (xs : List (g.row.R.Denot × g.row.V.Denot)). IsCanonOf k g.V.PartialEq.eq (erase k (value_at k (whole c.args.chunks.now.items)) c.args.range) xs) (sym c.settle.ensures.whole) c.in_ok-counts.ensures.ok.canon

pub returns-clause-counted : goal.returns-clause-counted
returns-clause-counted g c = subst (λ (xs : List (g.row.R.Denot × g.row.V.Denot)). IsCounted g.V.PartialEq.eq 1 (whole c.args.chunks.now.items) xs c.in_ok-counts.counts.before c.in_ok-counts.counts.after) (sym c.settle.ensures.whole) c.in_ok-counts.ensures.counted
