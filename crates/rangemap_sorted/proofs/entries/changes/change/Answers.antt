use Rattle.std.proofs.Common.{arith, ◌≡◌, ◌<◌, ◌+◌, ◌≤◌, ℕ, Result, Ok, Err, refl, IsOk, OnOk, None, [], List, ◌++◌, take, drop, length, Bool, true, false, true≢false, sym, ◌∙◌, ap}
use Rattle.std.specs.Option.{option_to_list}
use Rattle.rangemap_core.specs.Ranges.{IsCanonical, IsStorable, overlapped, value_at}
use Rattle.rangemap_core.specs.engine.Stretch.{IsStretch, IsLeftSide, IsRightSide, IsPiece, middle_of}
use Rattle.rangemap_core.proofs.PlaceLemmas.{S}
use Rattle.rangemap_core.proofs.InsertSideLemmas.{on_ok}
use Rattle.std.proofs.lemmas.Result.{on_ok_weaker}
use Rattle.rangemap_sorted.specs.Changes.{IsChanged, grown}
use Rattle.rangemap_sorted.proofs.ChangeLemmas.{taken, replaced_is_made, meets_none, unchanged}
use Rattle.rangemap_sorted.proofs.entries.changes.change.Goals.{After-right-1, After-splice, After-stretch-places}
use Rattle.rangemap_sorted.proofs.entries.changes.change.Goals as goal

-- where no value comes and no pair is met, the stretch is empty
nothing_met : (g : _) (c : After-stretch-places g) → c.args.value ≡ None → overlapped g.Q.Kind.kind c.args.list.now.items c.args.range ≡ [] → c.stretch-places.result.start ≡ c.stretch-places.result.end
nothing_met g c none met =
    let k = g.Q.Kind.kind in
    let eq = g.V.PartialEq.eq in
    let xs = c.as_slice-pairs.result.now in
    let canonical : IsCanonical k eq xs = rw (c.as_slice-pairs.ensures.value) c.requires.canonical in
    let stored : IsStorable k c.args.range = record { start_is_key = c.known_ends.ensures.start_is_key; end_is_key = c.known_ends.ensures.end_is_key; non_empty = c.requires.non_empty } in
    let st : IsStretch (S g.met.Q.Kind.placed eq) xs (c.args.range, None) c.stretch-places.result.start c.stretch-places.result.end = rw (c.as_ref.ensures.value ∙ none) at c.stretch-places.ensures in
    meets_none g.met.Q.Kind.placed eq xs canonical c.args.range stored _ _ st (rw (c.as_slice-pairs.ensures.value) met)

pub middle-requires-clause-range : goal.middle-requires-clause-range
middle-requires-clause-range g c = record { start_is_key = c.known_ends.ensures.start_is_key; end_is_key = c.known_ends.ensures.end_is_key; non_empty = c.requires.non_empty }

-- the stretch, and what is left of its ends
sides_are : (g : _) (c : After-right-1 g)
    → IsCanonical g.Q.Kind.kind g.V.PartialEq.eq c.as_slice-pairs.result.now
    × IsStorable g.Q.Kind.kind c.args.range
    × IsStretch (S g.met.Q.Kind.placed g.V.PartialEq.eq) c.as_slice-pairs.result.now (c.args.range, c.args.value) c.stretch-places.result.start c.stretch-places.result.end
    × IsLeftSide (S g.met.Q.Kind.placed g.V.PartialEq.eq) c.as_slice-pairs.result.now (c.args.range, c.args.value) c.stretch-places.result.start c.stretch-places.result.end c.in_ok-left.left.piece c.in_ok-left.left.is_taken
    × IsRightSide (S g.met.Q.Kind.placed g.V.PartialEq.eq) c.as_slice-pairs.result.now (c.args.range, c.args.value) c.stretch-places.result.start c.stretch-places.result.end c.in_ok-left.right.piece c.in_ok-left.right.is_taken
sides_are g c = (
  rw (c.as_slice-pairs.ensures.value) c.requires.canonical,
  record { start_is_key = c.known_ends.ensures.start_is_key; end_is_key = c.known_ends.ensures.end_is_key; non_empty = c.requires.non_empty },
  rw (c.as_ref.ensures.value) at c.stretch-places.ensures,
  rw (c.as_ref-2.ensures.value) at c.in_ok-left.ensures.left,
  rw (c.as_ref-2.ensures.value) at c.in_ok-left.ensures.right,
)

pub middle-requires-clause-taken : goal.middle-requires-clause-taken
middle-requires-clause-taken g c =
    let h = sides_are g c in
    taken g.met.Q.Kind.placed g.V.PartialEq.eq g.met.V.Eq.laws _ h.0 c.args.range c.args.value h.1 _ _ _ _ _ _ h.3 h.4 h.2

pub returns-in_err-left-clause-meets_nothing : goal.returns-in_err-left-clause-meets_nothing
returns-in_err-left-clause-meets_nothing g c = λ none met. absurd (true≢false (sym (c.in_err-left.ensures.of_nothing (nothing_met g (goal.at.returns-in_err-left-clause-meets_nothing g c).After-stretch-places none met))))

-- nor is a pair taken in
not_taken : (taken : Bool) (start end : ℕ) → (taken ≡ true → start < end) → start ≡ end → taken ≡ false
not_taken true start end h same = absurd (omega (arith, h refl, same))
not_taken false start end h same = refl

pub returns-in_err-range-clause-meets_nothing : goal.returns-in_err-range-clause-meets_nothing
returns-in_err-range-clause-meets_nothing g c = λ none met.
    let same = nothing_met g (goal.at.returns-in_err-range-clause-meets_nothing g c).After-stretch-places none met in
    absurd (true≢false (sym (c.in_err-range.ensures.of_nothing (not_taken _ _ _ c.in_ok-left.ensures.left.in_stretch same) (not_taken _ _ _ c.in_ok-left.ensures.right.in_stretch same))))

-- all that is said of the list that is made
made : (g : _) (c : After-splice g) → OnOk c.splice.result (IsChanged g.Q.Kind.kind g.V.PartialEq.eq (value_at g.Q.Kind.kind c.args.list.now.items) c.args.range c.args.value c.splice.new.list.items × (length c.splice.new.list.items ≤ length c.args.list.now.items + grown c.args.value) × (((v w : g.row.V.Denot) → g.V.PartialEq.eq v w ≡ true) → length c.splice.new.list.items ≤ length c.args.list.now.items + 1))
made g c =
    let k = g.Q.Kind.kind in
    let eq = g.V.PartialEq.eq in
    let xs = c.as_slice-pairs.result.now in
    let value = c.args.value in
    let left = c.in_ok-left.left in
    let right = c.in_ok-left.right in
    let start = c.stretch-places.result.start in
    let end = c.stretch-places.result.end in
    let m = c.in_ok-range.range in
    let h = sides_are g (goal.at.After-splice g c).After-right-1 in
    let left_piece : IsPiece k eq value start end left.piece = rw (c.as_ref-2.ensures.value) at c.in_ok-left.ensures.left_piece in
    let right_piece : IsPiece k eq value start end right.piece = rw (c.as_ref-2.ensures.value) at c.in_ok-left.ensures.right_piece in
    let replaced = take start xs ++ (option_to_list left.piece ++ (middle_of m value ++ option_to_list right.piece)) ++ drop end xs in
    let ok : OnOk c.splice.result (c.splice.new.list.items ≡ replaced) = rw (c.as_slice-pairs.ensures.value, ← c.at_range-pair.ensures) c.splice.ensures.ok in
    rw (← c.as_slice-pairs.ensures.value) (on_ok (λ (new : List (g.row.R.Denot × g.row.V.Denot)). IsChanged k eq (value_at k xs) c.args.range value new × (length new ≤ length xs + grown value) × (((v w : g.row.V.Denot) → eq v w ≡ true) → length new ≤ length xs + 1)) c.splice.result c.splice.new.list.items replaced ok
    (replaced_is_made g.met.Q.Kind.placed eq g.met.V.Eq.laws xs h.0 c.args.range value h.1 start end left.piece right.piece left.is_taken right.is_taken h.3 h.4 h.2 left_piece right_piece m c.in_ok-range.ensures.ok))

pub returns-clause-ok : goal.returns-clause-ok
returns-clause-ok g c = on_ok_weaker c.splice.result (λ h. h.0) (made g c)

pub returns-clause-growth : goal.returns-clause-growth
returns-clause-growth g c = on_ok_weaker c.splice.result (λ h. h.1) (made g c)

pub returns-clause-growth_where_all_are_equal : goal.returns-clause-growth_where_all_are_equal
returns-clause-growth_where_all_are_equal g c = on_ok_weaker c.splice.result (λ h. h.2) (made g c)

ok_is : {T E P : Type 0} (r : Result T E) → OnOk r P → IsOk r → P
ok_is (Ok u) h is = h
ok_is (Err e) h is = absurd (true≢false (sym is))

pub returns-clause-meets_nothing : goal.returns-clause-meets_nothing
returns-clause-meets_nothing g c = λ none met.
    let xs = c.args.list.now.items in
    let same = nothing_met g (goal.at.returns-clause-meets_nothing g c).After-stretch-places none met in
    let no_left = ap (λ o. option_to_list o) (c.in_ok-left.ensures.left_piece.of_a_stretch same) in
    let no_right = ap (λ o. option_to_list o) (c.in_ok-left.ensures.right_piece.of_a_stretch same) in
    let no_middle = c.at_range-pair.ensures ∙ ap (middle_of c.in_ok-range.range) none in
    let succeeds : IsOk c.splice.result = c.splice.ensures.succeeds (omega (arith, ap (λ l. length l) no_left, ap (λ l. length l) no_right, ap (λ l. length l) no_middle)) in
    (succeeds, ok_is c.splice.result c.splice.ensures.ok succeeds ∙ unchanged xs _ _ _ _ _ same no_left no_middle no_right)
