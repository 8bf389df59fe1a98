use Rattle.std.proofs.Common.{arith, rules, ◌≡◌, ◌∙◌, ℕ, ◌+◌, ◌-◌, ◌<◌, ◌≤◌, ◌++◌, [], Err, List, Less, Ok, OnErr, Result, Some, ap, drop, false, get_or, is_gt, length, refl, subst, suc, sym, take, true, true≢false}
use Rattle.std.specs.Option.{IfSome}
use Rattle.std.proofs.Math.ListN.{set}
use Rattle.std.proofs.lemmas.List.{drop-set-lt, get_or_default, length-set, set-get_or, take-set}
use Rattle.rangemap_core.specs.Ranges.{IsCanonical, IsStorable, overlapped, value_at}
use Rattle.rangemap_core.specs.engine.Places.{place_cmp}
use Rattle.rangemap_core.proofs.PlaceLemmas.{S}
use Rattle.rangemap_core.proofs.SearchLemmas.{Every-at}
use Rattle.rangemap_sorted.specs.Changes.{IsChanged}
use Rattle.rangemap_sorted.proofs.ChangeLemmas.{Every-dropped, Every-taken}
use Rattle.rangemap_chunked.specs.Chunks.{AreFilled, AreFilledBut, IsClearBehind, IsLastTouched, IsPastBehind, chunk_by, whole}
use Rattle.rangemap_chunked.proofs.ChunkLemmas.{Every-further}
use Rattle.rangemap_chunked.proofs.CutLemmas.{canonical_chunk}
use Rattle.rangemap_chunked.proofs.HalvesLemmas.{AreHalves, IsSpan, first_at, front_bound, halves_changed, halves_kept, halves_lent, last_at}
use Rattle.rangemap_chunked.proofs.OverLemmas.{IsOver, count_less, count_more, over_canonical, over_changed, over_filled_but, over_longer, over_through, over_up_to, over_whole, still_filled, sums}
use Rattle.rangemap_chunked.proofs.StoreLemmas.{Every-set, changed_fills, changed_length, chunk_changed, chunk_length, if_some_weaker}
use Rattle.rangemap_chunked.proofs.changes.change_over.Goals as goal
use Rattle.rangemap_chunked.proofs.changes.change_over.Goals.{After-count, After-cut, After-from_residual, After-from_residual-in_err-change_with, After-index, After-index-back-0, After-known_ends, After-last_touched-place, After-split_at_mut-front, then-len-eq0, else-len-eq0}

-- what holds in any case holds at an error
on_err_where : {X E P : Type 0} (r : Result X E) → P → OnErr r P
on_err_where (Ok x) p = tt
on_err_where (Err e) p = p

-- the last of several chunks, that before `end`
record IsLast (at end : ℕ) : Type 0 where
  next : end ≡ suc (end - 1)
  past : end ≡ end - 1 + 1
  within : end - 1 < end
  up_to_last : at + 1 ≤ end - 1
  up_to_end : at + 1 ≤ end

is_last : (at end : ℕ) → at + 1 < end → IsLast at end
is_last at end more = record { next = omega arith; past = omega arith; within = omega arith; up_to_last = omega arith; up_to_end = omega arith }

span_of : {X : Type 0} (xs : List X) (at end : ℕ) → at + 1 < end → end ≤ length xs → IsSpan xs at (end - 1)
span_of xs at end more fits = record { order = omega arith; bound = omega arith }

last_fits : (end n : ℕ) → end ≤ n → end - 1 ≤ n
last_fits end n fits = omega (arith, fits)

not_alone : (at end : ℕ) → at + 1 < end → end ≤ at + 1 → ⊥
not_alone at end more alone = omega (arith, more, alone)

positive : (n : ℕ) → (n ≡ 0 → ⊥) → 0 < n
positive n some = omega (arith, some)

-- numbers of pairs
fits : (n same more all most : ℕ) → n ≡ same → same + more + 1 ≤ all → all ≤ most → n ≤ most
fits n same more all most is fewer within = omega (arith, is, fewer, within)

grown_by : (after new old first n place more : ℕ) → after ≡ new → new ≤ old + 1 + more → old ≡ first → first ≤ n → after ≤ n + place + 1 + more
grown_by after new old first n place more is growth same within = omega (arith, is, growth, same, within)

grown_by_one : (after new old first n place : ℕ) → after ≡ new → new ≤ old + 2 → old ≡ first → first ≤ n → after ≤ n + place + 1 + 1
grown_by_one after new old first n place is growth same within = omega (arith, is, growth, same, within)

-- the pairs before the last chunk, where these were lent
before_last : {X : Type 0} (lent xs : List (List X)) (at last n : ℕ) → lent ≡ xs → n ≡ length (whole (take (last - at) (drop at lent))) → n ≡ length (whole (take (last - at) (drop at xs)))
before_last lent xs at last n is counted = counted ∙ ap (λ ps. length (whole (take (last - at) (drop at ps)))) is

stored : (g : _) (c : After-known_ends g) → IsStorable g.Q.Kind.kind c.args.range
stored g c = record { start_is_key = c.known_ends.ensures.start_is_key; end_is_key = c.known_ends.ensures.end_is_key; non_empty = c.requires.non_empty }

span : (g : _) (c : After-index g) → IsSpan c.args.chunks.now.items c.args.places.start (c.args.places.end - 1)
span g c = span_of c.args.chunks.now.items c.args.places.start c.args.places.end c.if-end-at.false c.requires.end

-- the place that was searched for in the last chunk
found : (g : _) (c : After-last_touched-place g) → IsLastTouched (S g.met.Q.Kind.placed g.V.PartialEq.eq) c.args.range (get_or c.args.chunks.now.items (c.args.places.end - 1) []) c.last_touched-place.result
found g c =
    subst (λ (xs : List (g.row.R.Denot × g.row.V.Denot)). IsLastTouched (S g.met.Q.Kind.placed g.V.PartialEq.eq) c.args.range xs c.last_touched-place.result)
    (c.index.ensures ∙ get_or_default c.args.chunks.now.items (c.args.places.end - 1) c.index.result.now [] (span g (goal.at.After-last_touched-place g c).After-index).bound) c.last_touched-place.ensures

counted : (g : _) (c : After-count g) → c.count.result ≡ length (whole (take (c.args.places.end - 1 - c.args.places.start) (drop c.args.places.start c.args.chunks.now.items)))
counted g c = before_last _ c.args.chunks.now.items c.args.places.start (c.args.places.end - 1) c.count.result c.deref.ensures.value c.count.ensures

-- the pairs that go are no more than there are
fewer : (g : _) (c : After-count g) → c.count.result + c.last_touched-place.result + 1 ≤ length (whole c.args.chunks.now.items)
fewer g c = count_less (span g (goal.at.After-count g c).After-index) c.last_touched-place.result (found g (goal.at.After-count g c).After-last_touched-place).in_bounds c.count.result (counted g c)

halves : (g : _) (c : After-split_at_mut-front g) → AreHalves c.args.chunks.now.items c.args.places.start (c.args.places.end - 1) c.split_at_mut-front.result.0.now c.split_at_mut-front.result.1.now c.args.chunks.now.len
halves g c = halves_lent c.deref_mut.result.now (span g (goal.at.After-split_at_mut-front g c).After-index) c.deref_mut.ensures.value c.deref_mut.ensures.len c.split_at_mut-front.ensures.front c.split_at_mut-front.ensures.back

-- the pairs of the first chunk, with the one of the last that the range reaches
first_with : (g : _) (c : After-index-back-0 g)
    → get_or c.split_at_mut-front.result.0.now c.args.places.start c.index-front-at.result ++ take 1 (drop c.last_touched-place.result (get_or c.split_at_mut-front.result.1.now 0 c.index-back-0.result)) ≡ get_or c.args.chunks.now.items c.args.places.start [] ++ take 1 (drop c.last_touched-place.result (get_or c.args.chunks.now.items (c.args.places.end - 1) []))
first_with g c = λ i. first_at (halves g (goal.at.After-index-back-0 g c).After-split_at_mut-front) c.index-front-at.result [] i ++ take 1 (drop c.last_touched-place.result (last_at (halves g (goal.at.After-index-back-0 g c).After-split_at_mut-front) c.index-back-0.result [] i))

-- what the change makes of these
made : (g : _) (c : After-cut g)
    → IsChanged g.Q.Kind.kind g.V.PartialEq.eq (value_at g.Q.Kind.kind (get_or c.args.chunks.now.items c.args.places.start [] ++ take 1 (drop c.last_touched-place.result (get_or c.args.chunks.now.items (c.args.places.end - 1) [])))) c.args.range c.args.value c.change_with.new.self
made g c = subst (λ (ys : List (g.row.R.Denot × g.row.V.Denot)). IsChanged g.Q.Kind.kind g.V.PartialEq.eq (value_at g.Q.Kind.kind ys) c.args.range c.args.value c.change_with.new.self) (first_with g (goal.at.After-cut g c).After-index-back-0) c.in_ok-change_with.ensures.ok

-- the chunks after the change
over : (g : _) (c : After-cut g) → IsOver c.args.chunks.now.items c.cut.new.list.items c.args.places.start (c.args.places.end - 1) c.change_with.new.self (drop (c.last_touched-place.result + 1) (get_or c.args.chunks.now.items (c.args.places.end - 1) []))
over g c =
    let here = goal.at.After-cut g c in
    let xs = c.args.chunks.now.items in
    let at = c.args.places.start in
    let last = c.args.places.end - 1 in
    let front = c.split_at_mut-front.result.0.now in
    let back = c.split_at_mut-front.result.1.now in
    let new = c.change_with.new.self in
    let left = c.give_room_back.new.self in
    let rest = drop (c.last_touched-place.result + 1) (get_or xs last []) in
    let left_is = c.give_room_back.ensures ∙ c.in_ok-change_with.ensures.rest ∙ ap (drop (c.last_touched-place.result + 1)) (last_at (halves g here.After-split_at_mut-front) c.index-back-0.result []) in
    let items = take c.args.chunks.now.len (set front at new ++ set back 0 left ++ drop (length (set front at new ++ set back 0 left)) xs) in
    let items_is =
    halves_changed (halves g here.After-split_at_mut-front) (drop (length (set front at new ++ set back 0 left)) xs) new left
    ∙ ap (λ (ys : List (g.row.R.Denot × g.row.V.Denot)). set (set xs at new) last ys) left_is in
    let many = c.len-2.ensures ∙ ap length left_is in
    elim c.if-len-eq0.branch [
      | then-len-eq0 w ↦ over_through (span g here.After-index) new rest items c.cut.new.list.items items_is (sym many ∙ w.if-len-eq0.true) (c.cut.ensures.items ∙ ap (λ n. take (at + 1) items ++ drop n items) (w.kept_from-is ∙ (is_last at c.args.places.end c.if-end-at.false).past))
      | else-len-eq0 w ↦ over_up_to (span g here.After-index) new rest items c.cut.new.list.items items_is (subst (λ n. 0 < n) many (positive c.len-2.result w.if-len-eq0.false)) (c.cut.ensures.items ∙ ap (λ n. take (at + 1) items ++ drop n items) w.kept_from-is)
    ]

-- the chunks where memory was refused
kept : (g : _) (c : After-from_residual-in_err-change_with g)
    → take c.args.chunks.now.len (set c.split_at_mut-front.result.0.now c.args.places.start c.change_with.new.self ++ set c.split_at_mut-front.result.1.now 0 c.change_with.new.other ++ drop (length (set c.split_at_mut-front.result.0.now c.args.places.start c.change_with.new.self ++ set c.split_at_mut-front.result.1.now 0 c.change_with.new.other)) c.args.chunks.now.items) ≡ c.args.chunks.now.items
kept g c =
    halves_kept (halves g (goal.at.After-from_residual-in_err-change_with g c).After-split_at_mut-front) (drop (length (set c.split_at_mut-front.result.0.now c.args.places.start c.change_with.new.self ++ set c.split_at_mut-front.result.1.now 0 c.change_with.new.other)) c.args.chunks.now.items) c.change_with.new.self c.change_with.new.other
    c.index-front-at.result c.index-back-0.result c.in_err-change_with.ensures.err.0 c.in_err-change_with.ensures.err.1

pub offset_bounds-front-at : goal.offset_bounds-front-at
offset_bounds-front-at g c = let bound : c.args.places.start < length c.split_at_mut-front.result.0.now = front_bound (halves g (goal.at.offset_bounds-front-at g c).After-split_at_mut-front) in search (rules, bound)

pub last_touched-place-requires-clause-filled : goal.last_touched-place-requires-clause-filled
last_touched-place-requires-clause-filled g c =
    subst (λ (ys : List (g.row.R.Denot × g.row.V.Denot)). 0 < length ys) (sym c.index.ensures) (Every-at (λ (ys : List (g.row.R.Denot × g.row.V.Denot)). 0 < length ys) c.args.chunks.now.items c.requires.chunked.filled (c.args.places.end - 1) c.index.result.now (span g (goal.at.last_touched-place-requires-clause-filled g c).After-index).bound)

pub last_touched-place-requires-clause-canonical : goal.last_touched-place-requires-clause-canonical
last_touched-place-requires-clause-canonical g c =
    let k = g.Q.Kind.kind in
    let eq = g.V.PartialEq.eq in
    subst (IsCanonical k eq) (sym c.index.ensures) (canonical_chunk k eq c.args.chunks.now.items c.requires.chunked.canonical (c.args.places.end - 1) c.index.result.now (span g (goal.at.last_touched-place-requires-clause-canonical g c).After-index).bound)

pub last_touched-place-requires-clause-begun : goal.last_touched-place-requires-clause-begun
last_touched-place-requires-clause-begun g c =
    subst (λ (ys : List (g.row.R.Denot × g.row.V.Denot)). chunk_by (S g.met.Q.Kind.placed g.V.PartialEq.eq) (g.Q.Kind.end_place c.args.range) ys ≡ true) (sym c.index.ensures)
    (c.requires.begun c.if-end-at.false (c.args.places.end - 1) c.index.result.now (omega arith) (is_last c.args.places.start c.args.places.end c.if-end-at.false).within)

pub count-requires : goal.count-requires
count-requires g c =
    let here = goal.at.count-requires g c in
    let place = c.last_touched-place.result in
    fits _ _ place _ _ (before_last _ c.args.chunks.now.items c.args.places.start (c.args.places.end - 1) _ c.deref.ensures.value refl) (count_less (span g here.After-index) place (found g here.After-last_touched-place).in_bounds _ refl) c.requires.fits

pub overflow_add-before : goal.overflow_add-before
overflow_add-before g c = let less = fewer g c in omega (arith, less, c.requires.fits)

pub overflow_add-before-2 : goal.overflow_add-before-2
overflow_add-before-2 g c = let less = fewer g c in omega (arith, less, c.requires.fits)

pub change_with-requires-clause-in_bounds : goal.change_with-requires-clause-in_bounds
change_with-requires-clause-in_bounds g c = subst (λ (ys : List (g.row.R.Denot × g.row.V.Denot)). c.last_touched-place.result < length ys) (sym (last_at (halves g (goal.at.change_with-requires-clause-in_bounds g c).After-split_at_mut-front) c.index-back-0.result [])) (found g (goal.at.change_with-requires-clause-in_bounds g c).After-last_touched-place).in_bounds

pub change_with-requires-clause-canonical : goal.change_with-requires-clause-canonical
change_with-requires-clause-canonical g c = subst (IsCanonical g.Q.Kind.kind g.V.PartialEq.eq) (sym (first_with g (goal.at.change_with-requires-clause-canonical g c).After-index-back-0)) (over_canonical g.met.Q.Kind.placed g.met.V.Eq.laws c.requires.chunked (stored g (goal.at.change_with-requires-clause-canonical g c).After-known_ends) (span g (goal.at.change_with-requires-clause-canonical g c).After-index) (found g (goal.at.change_with-requires-clause-canonical g c).After-last_touched-place) c.requires.past)

pub returns-clause-in_bounds : goal.returns-clause-in_bounds
returns-clause-in_bounds g c = over_longer (span g (goal.at.returns-clause-in_bounds g c).After-index) (over g c)

pub returns-clause-ok : goal.returns-clause-ok
returns-clause-ok g c =
    let here = goal.at.returns-clause-ok g c in
    let xs = c.args.chunks.now.items in
    let k = g.Q.Kind.kind in
    let eq = g.V.PartialEq.eq in
    let next = (is_last c.args.places.start c.args.places.end c.if-end-at.false).next in
    subst (λ (ys : List (g.row.R.Denot × g.row.V.Denot)). IsChanged k eq (value_at k (whole xs)) c.args.range c.args.value ys) (sym (over_whole (span g here.After-index) (over g c)))
    (over_changed g.met.Q.Kind.placed g.met.V.Eq.laws c.requires.chunked (stored g here.After-known_ends) (span g here.After-index) (found g here.After-last_touched-place) c.requires.past c.args.value c.change_with.new.self (made g c) c.requires.before
    (subst (λ n. IsPastBehind (S g.met.Q.Kind.placed eq) xs c.args.range n) next c.requires.behind)
    (subst (λ n. IfSome c.args.value (λ _. IsClearBehind (S g.met.Q.Kind.placed eq) xs c.args.range n)) next c.requires.clear))

pub returns-clause-filled : goal.returns-clause-filled
returns-clause-filled g c = over_filled_but (span g (goal.at.returns-clause-filled g c).After-index) (over g c) c.args.value c.requires.chunked.filled (changed_fills g.met.Q.Kind.placed g.met.V.Eq.laws _ c.args.range c.args.value c.change_with.new.self (stored g (goal.at.returns-clause-filled g c).After-known_ends) (made g c))

pub returns-clause-counted : goal.returns-clause-counted
returns-clause-counted g c =
    let here = goal.at.returns-clause-counted g c in
    let place = c.last_touched-place.result in
    let l = (found g here.After-last_touched-place).in_bounds in
    let n_is = counted g here.After-count in
    let same = ap length (first_at (halves g here.After-split_at_mut-front) c.index-front-at.result []) in
    let more = count_more (span g here.After-index) place l c.count.result n_is in
    record {
      sum = sums (span g here.After-index) place l c.count.result n_is c.change_with.new.self c.cut.new.list.items (over_whole (span g here.After-index) (over g c)) ∙ ap (λ m. length (whole c.args.chunks.now.items) + m) (sym c.len-after.ensures);
      some = fewer g here.After-count;
      growth = grown_by _ _ _ _ _ place _ c.len-after.ensures c.in_ok-change_with.ensures.growth same more;
      growth_where_all_are_equal = λ equal. grown_by_one _ _ _ _ _ place c.len-after.ensures (c.in_ok-change_with.ensures.growth_where_all_are_equal equal) same more;
    }

pub returns-in_err-change_with-clause-err : goal.returns-in_err-change_with-clause-err
returns-in_err-change_with-clause-err g c = on_err_where c.from_residual-in_err-change_with.result (kept g c)

pub returns-in_err-change_with-clause-in_bounds : goal.returns-in_err-change_with-clause-in_bounds
returns-in_err-change_with-clause-in_bounds g c = subst (λ n. c.args.places.start < n) (sym (ap length (kept g c))) c.requires.start

pub returns-in_err-change_with-clause-filled : goal.returns-in_err-change_with-clause-filled
returns-in_err-change_with-clause-filled g c = subst (λ (ps : List (List (g.row.R.Denot × g.row.V.Denot))). AreFilledBut c.args.value c.args.places.start ps) (sym (kept g c)) (still_filled c.args.value c.args.places.start c.args.chunks.now.items c.requires.chunked.filled)

-- the chunk alone, where memory was refused
unchanged : (g : _) (c : After-from_residual g) → set c.args.chunks.now.items c.args.places.start c.change.new.self ≡ c.args.chunks.now.items
unchanged g c = ap (λ (xs : List (g.row.R.Denot × g.row.V.Denot)). set c.args.chunks.now.items c.args.places.start xs) (c.in_err-change.ensures.err ∙ c.index_mut-chunk.ensures.value) ∙ set-get_or c.args.chunks.now.items c.args.places.start c.index_mut-chunk.result.now

pub returns-in_err-change-clause-err : goal.returns-in_err-change-clause-err
returns-in_err-change-clause-err g c = on_err_where c.from_residual.result (unchanged g c)

pub returns-in_err-change-clause-in_bounds : goal.returns-in_err-change-clause-in_bounds
returns-in_err-change-clause-in_bounds g c = subst (λ n. c.args.places.start < n) (sym (ap length (unchanged g c))) c.requires.start

pub returns-in_err-change-clause-filled : goal.returns-in_err-change-clause-filled
returns-in_err-change-clause-filled g c = subst (λ (ps : List (List (g.row.R.Denot × g.row.V.Denot))). AreFilledBut c.args.value c.args.places.start ps) (sym (unchanged g c)) (still_filled c.args.value c.args.places.start c.args.chunks.now.items c.requires.chunked.filled)

pub returns-then-end-at-clause-in_bounds : goal.returns-then-end-at-clause-in_bounds
returns-then-end-at-clause-in_bounds g c = subst (λ n. c.args.places.start < n) (sym (length-set c.args.chunks.now.items c.args.places.start c.change.new.self)) c.requires.start

pub cut-requires-clause-start_le_end : goal.cut-requires-clause-start_le_end
cut-requires-clause-start_le_end g c = elim c.if-len-eq0.branch [
  | then-len-eq0 w ↦ subst (λ n. c.args.places.start + 1 ≤ n) (sym w.kept_from-is) (is_last c.args.places.start c.args.places.end c.if-end-at.false).up_to_end
  | else-len-eq0 w ↦ subst (λ n. c.args.places.start + 1 ≤ n) (sym w.kept_from-is) (is_last c.args.places.start c.args.places.end c.if-end-at.false).up_to_last
]

pub cut-requires-clause-in_bounds : goal.cut-requires-clause-in_bounds
cut-requires-clause-in_bounds g c =
    let all_is = sym (sym (ap length c.deref_mut.ensures.value) ∙ c.deref_mut.ensures.len) in
    let fits = subst (λ n. c.args.places.end ≤ n) (sym all_is) c.requires.end in
    elim c.if-len-eq0.branch [
      | then-len-eq0 w ↦ subst (λ n. n ≤ c.args.chunks.now.len) (sym w.kept_from-is) fits
      | else-len-eq0 w ↦ subst (λ n. n ≤ c.args.chunks.now.len) (sym w.kept_from-is) (last_fits c.args.places.end c.args.chunks.now.len fits)
    ]

pub returns-then-end-at-clause-ok : goal.returns-then-end-at-clause-ok
returns-then-end-at-clause-ok g c =
    let behind = Every-further (λ (b : g.row.R.Denot × g.row.V.Denot). is_gt (place_cmp g.Q.Kind.kind.cmp (g.Q.Kind.end_place c.args.range) (Some (g.Q.Kind.kind.start b.0))) ≡ false) c.args.chunks.now.items c.args.places.end (c.args.places.start + 1) (omega (arith, c.if-end-at.true)) c.requires.behind in
    let clear = if_some_weaker c.args.value (Every-further (λ (b : g.row.R.Denot × g.row.V.Denot). place_cmp g.Q.Kind.kind.cmp (g.Q.Kind.end_place c.args.range) (Some (g.Q.Kind.kind.start b.0)) ≡ Less) c.args.chunks.now.items c.args.places.end (c.args.places.start + 1) (omega (arith, c.if-end-at.true))) c.requires.clear in
    chunk_changed g.met.Q.Kind.placed g.met.V.Eq.laws c.args.chunks.now.items c.requires.chunked c.args.places.start c.requires.start c.index_mut-chunk.result.now c.change.new.self c.index_mut-chunk.ensures.value c.args.range (stored g (goal.at.returns-then-end-at-clause-ok g c).After-known_ends) c.requires.before c.args.value c.in_ok-change.ensures.ok behind clear

pub returns-in_err-change-clause-meets_nothing : goal.returns-in_err-change-clause-meets_nothing
returns-in_err-change-clause-meets_nothing g c = λ out alone none.
    let here = ap (λ (xs : List (g.row.R.Denot × g.row.V.Denot)). overlapped g.Q.Kind.kind xs c.args.range) (c.index_mut-chunk.ensures.value ∙ get_or_default c.args.chunks.now.items c.args.places.start c.index_mut-chunk.result.now [] c.requires.start) ∙ none in
    absurd (true≢false (sym (c.in_err-change.ensures.meets_nothing out here).0))

pub returns-then-end-at-clause-meets_nothing : goal.returns-then-end-at-clause-meets_nothing
returns-then-end-at-clause-meets_nothing g c = λ out alone none.
    let here = ap (λ (xs : List (g.row.R.Denot × g.row.V.Denot)). overlapped g.Q.Kind.kind xs c.args.range) (c.index_mut-chunk.ensures.value ∙ get_or_default c.args.chunks.now.items c.args.places.start c.index_mut-chunk.result.now [] c.requires.start) ∙ none in
    let same = c.in_ok-change.ensures.meets_nothing out here in
    (same.0, ap (λ (xs : List (g.row.R.Denot × g.row.V.Denot)). set c.args.chunks.now.items c.args.places.start xs) (same.1 ∙ c.index_mut-chunk.ensures.value) ∙ set-get_or c.args.chunks.now.items c.args.places.start c.index_mut-chunk.result.now)

pub change-requires-clause-canonical : goal.change-requires-clause-canonical
change-requires-clause-canonical g c =
    let k = g.Q.Kind.kind in
    let eq = g.V.PartialEq.eq in
    subst (IsCanonical k eq) (sym c.index_mut-chunk.ensures.value) (canonical_chunk k eq c.args.chunks.now.items c.requires.chunked.canonical c.args.places.start c.index_mut-chunk.result.now c.requires.start)

pub returns-then-end-at-clause-filled : goal.returns-then-end-at-clause-filled
returns-then-end-at-clause-filled g c = record {
  all = if_some_weaker c.args.value (Every-set _ c.args.chunks.now.items c.args.places.start c.change.new.self c.requires.chunked.filled) (changed_fills g.met.Q.Kind.placed g.met.V.Eq.laws (value_at g.Q.Kind.kind c.index_mut-chunk.result.now) c.args.range c.args.value c.change.new.self (stored g (goal.at.returns-then-end-at-clause-filled g c).After-known_ends) c.in_ok-change.ensures.ok);
  before = subst (λ (ps : List (List (g.row.R.Denot × g.row.V.Denot))). AreFilled ps) (sym (take-set c.args.chunks.now.items c.args.places.start c.change.new.self)) (Every-taken _ c.args.places.start c.args.chunks.now.items c.requires.chunked.filled);
  behind = subst (λ (ps : List (List (g.row.R.Denot × g.row.V.Denot))). AreFilled ps) (sym (drop-set-lt (c.args.places.start + 1) c.args.chunks.now.items c.args.places.start c.change.new.self (omega arith))) (Every-dropped _ (c.args.places.start + 1) c.args.chunks.now.items c.requires.chunked.filled);
}

pub returns-then-end-at-clause-counted : goal.returns-then-end-at-clause-counted
returns-then-end-at-clause-counted g c =
    let more = changed_length c.args.chunks.now.items c.args.places.start c.index_mut-chunk.result.now c.change.new.self c.requires.start c.index_mut-chunk.ensures.value in
    let less = chunk_length c.args.chunks.now.items c.args.places.start c.index_mut-chunk.result.now c.requires.start c.index_mut-chunk.ensures.value in
    record {
      sum = omega (arith, more, c.len-before.ensures, c.len.ensures);
      some = omega (arith, less, c.len-before.ensures);
      growth = omega (arith, c.len-before.ensures, c.len.ensures, c.in_ok-change.ensures.growth);
      growth_where_all_are_equal = λ equal. let one = c.in_ok-change.ensures.growth_where_all_are_equal equal in omega (arith, c.len-before.ensures, c.len.ensures, one);
    }

pub returns-clause-meets_nothing : goal.returns-clause-meets_nothing
returns-clause-meets_nothing g c = λ out alone none. absurd (not_alone c.args.places.start c.args.places.end c.if-end-at.false alone)

pub returns-in_err-change_with-clause-meets_nothing : goal.returns-in_err-change_with-clause-meets_nothing
returns-in_err-change_with-clause-meets_nothing g c = λ out alone none. absurd (not_alone c.args.places.start c.args.places.end c.if-end-at.false alone)
