use Rattle.std.proofs.Common.{arith, ◌≡◌, ◌∙◌, ◌+◌, ◌≤◌, inr, [], List, Option, None, Some, ap, false, is_some, subst, sym, true, true≢false}
use Rattle.std.specs.Map.Iter.{TakesFirst, deref_pair}
use Rattle.rangemap_core.specs.Ranges.{IsCanonical, IsStorable, overlapped}
use Rattle.rangemap_chunked.proofs.CutLemmas.{canonical_chunk}
use Rattle.rangemap_chunked.proofs.MeetLemmas.{alone_where_none}
use Rattle.rangemap_chunked.proofs.OverlapLemmas.{pairs_at}
use Rattle.rangemap_chunked.proofs.StoreLemmas.{none_in_chunk}
use Rattle.rangemap_chunked.proofs.search.may_overflow.Goals as goal

-- whether a pair was taken says whether there was one
taken_some : {A X : Type 0} (shows : A → X) (xs left : List X) (taken : Option A) → TakesFirst shows xs taken left → is_some taken ≡ true → xs ≡ [] → ⊥
taken_some shows xs left None is t none = true≢false (sym t)
taken_some shows xs left (Some a) is t none = absurd (cc)

taken_none : {A X : Type 0} (shows : A → X) (xs left : List X) (taken : Option A) → TakesFirst shows xs taken left → is_some taken ≡ false → xs ≡ []
taken_none shows xs left None is f = is.0
taken_none shows xs left (Some a) is f = absurd (true≢false f)

pub returns-then-len-lt18446744073709551615-clause-alone : goal.returns-then-len-lt18446744073709551615-clause-alone
returns-then-len-lt18446744073709551615-clause-alone g c = λ none.
    let stored : IsStorable g.Q.Kind.kind c.args.range.now = record { start_is_key = c.known_ends.ensures.start_is_key; end_is_key = c.known_ends.ensures.end_is_key; non_empty = c.requires.non_empty } in
    alone_where_none g.met.Q.Kind.placed g.met.V.Eq.laws c.args.chunks.now c.requires.chunked c.args.range.now stored c.args.places.start c.args.places.end c.requires.end c.requires.past c.requires.begun none

pub returns-then-at-end-clause-alone : goal.returns-then-at-end-clause-alone
returns-then-at-end-clause-alone g c = λ none.
    let stored : IsStorable g.Q.Kind.kind c.args.range.now = record { start_is_key = c.known_ends.ensures.start_is_key; end_is_key = c.known_ends.ensures.end_is_key; non_empty = c.requires.non_empty } in
    alone_where_none g.met.Q.Kind.placed g.met.V.Eq.laws c.args.chunks.now c.requires.chunked c.args.range.now stored c.args.places.start c.args.places.end c.requires.end c.requires.past c.requires.begun none

pub returns-then-at-end-clause-refused : goal.returns-then-at-end-clause-refused
returns-then-at-end-clause-refused g c = λ t none.
    let stored : IsStorable g.Q.Kind.kind c.args.range.now = record { start_is_key = c.known_ends.ensures.start_is_key; end_is_key = c.known_ends.ensures.end_is_key; non_empty = c.requires.non_empty } in
    let alone : c.args.places.end ≤ c.args.places.start + 1 = alone_where_none g.met.Q.Kind.placed g.met.V.Eq.laws c.args.chunks.now c.requires.chunked c.args.range.now stored c.args.places.start c.args.places.end c.requires.end c.requires.past c.requires.begun none in
    omega (arith, c.if-at-end.true, alone)

pub returns-clause-refused : goal.returns-clause-refused
returns-clause-refused g c = λ t none.
    let k = g.Q.Kind.kind in
    let range = c.args.range.now in
    let here = none_in_chunk (λ (pair : g.row.R.Denot × g.row.V.Denot). k.meets range pair.0) c.args.chunks.now c.args.places.start c.index-chunks-at.result c.requires.in_bounds c.index-chunks-at.is none in
    taken_some deref_pair c.new.result c.take_first.new.self c.take_first.result c.take_first.ensures (sym c.is_some.ensures ∙ t)
    (c.new.ensures ∙ ap (λ (xs : List (g.row.R.Denot × g.row.V.Denot)). overlapped k xs range) c.as_slice.ensures ∙ here)

pub returns-clause-allowed : goal.returns-clause-allowed
returns-clause-allowed g c = λ f.
    let k = g.Q.Kind.kind in
    let range = c.args.range.now in
    let chunk = pairs_at c.args.chunks.now c.args.places.start c.requires.in_bounds c.index-chunks-at.result c.as_slice.result.now c.as_slice.ensures c.index-chunks-at.is in
    let none = taken_none deref_pair c.new.result c.take_first.new.self c.take_first.result c.take_first.ensures (sym c.is_some.ensures ∙ f) in
    inr (c.if-at-end.false, ap (λ (xs : List (g.row.R.Denot × g.row.V.Denot)). overlapped k xs range) (sym chunk) ∙ sym c.new.ensures ∙ none)

pub new-requires : goal.new-requires
new-requires g c =
    let k = g.Q.Kind.kind in
    let eq = g.V.PartialEq.eq in
    subst (IsCanonical k eq) (sym (c.as_slice.ensures ∙ c.index-chunks-at.is)) (canonical_chunk k eq c.args.chunks.now c.requires.chunked.canonical c.args.places.start c.index-chunks-at.result c.requires.in_bounds)
