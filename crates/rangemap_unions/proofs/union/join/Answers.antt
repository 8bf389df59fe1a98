use Rattle.std.proofs.Common.{arith, ◌≡◌, ◌<◌, List, [], ◌∷◌, length, unwrap_or, cond, true, false, is_lt, refl, sym, ap, subst, ◌∙◌}
use Rattle.rangemap_core.specs.operations.Places.{RangePlaces}
use Rattle.rangemap_core.specs.Sets.{ranges}
use Rattle.rangemap_core.specs.Shown.{shown_range}
use Rattle.rangemap_unions.specs.Items.{items_from, items_of, later_end, merged, reaches}
use Rattle.rangemap_unions.specs.Merged.{IsUnreached}
use Rattle.rangemap_unions.proofs.ItemLemmas.{ends_compared}
use Rattle.rangemap_unions.proofs.union.join.Goals.{After-is_lt}
use Rattle.rangemap_unions.proofs.union.join.Goals as goal

shorter : {X : Type 0} (r : X) (all rest : List X) → all ≡ r ∷ rest → length rest < length all
shorter r all rest is = rw is (omega arith)

module _ {P X : Type 0} (l : RangePlaces P X) where
  -- a range that is reached is joined
  one_more : (first last near r : X) (all rest : List X) → near ≡ last → (reaches l near r ≡ true) × (all ≡ r ∷ rest)
      → items_from l first last all ≡ items_from l first (later_end l last r) rest
  one_more first last near r all rest same taken = rw taken.1 (rw (subst (λ n. reaches l n r ≡ true) same taken.0))

  -- where the next one is not reached, the item is whole
  whole : (first last near : X) (rest : List X) → near ≡ last → IsUnreached l near rest → items_from l first last rest ≡ l.between first last ∷ items_of l rest
  whole first last near [] same apart = refl
  whole first last near (r ∷ rest) same apart = rw (subst (λ n. reaches l n r ≡ false) same apart)

-- what is joined once a range was compared
joined : (g : _) (c : After-is_lt g)
    → items_from g.C.Range.KeyRange.places (shown_range g.C.Cursor.given c.args.first.now) (shown_range g.C.Cursor.given (unwrap_or c.args.last.now c.args.first.now)) (merged g.C.Range.KeyRange.places (ranges (g.C.Cursor.left c.args.left.now)) (ranges (g.C.Cursor.left c.args.right.now)))
    ≡ items_from g.C.Range.KeyRange.places (shown_range g.C.Cursor.given c.args.first.now) (cond c.is_lt.result (shown_range g.C.Cursor.given c.in-Some.next) (shown_range g.C.Cursor.given (unwrap_or c.joined.last c.args.first.now))) (merged g.C.Range.KeyRange.places (ranges (g.C.Cursor.left c.take_reached.new.left)) (ranges (g.C.Cursor.left c.take_reached.new.right)))
joined g c =
    let l = g.C.Range.KeyRange.places in
    let target = shown_range g.C.Cursor.given in
    let first = target c.args.first.now in
    let last = target (unwrap_or c.joined.last c.args.first.now) in
    let next = target c.in-Some.next in
    let rest = merged l (ranges (g.C.Cursor.left c.take_reached.new.left)) (ranges (g.C.Cursor.left c.take_reached.new.right)) in
    let order : c.cmp.result ≡ l.order (l.end_place last) (l.end_place next) = ◌∙◌ {b = g.C.Range.Key.Ord.cmp c.end.result.now c.end-end.result.now} c.cmp.ensures
    (ends_compared g.met.C.Range.KeyRange.has_places g.met.C.Range.KeyRange.order last next _ _ (c.end.ensures ∙ ap g.C.Range.KeyRange.read.end c.last_of-in-Some.ensures) (c.end-end.ensures ∙ ap g.C.Range.KeyRange.read.end c.parts.ensures.range)) in
    c.joined.invariant
    ∙ one_more l first last c.last_of.result.now next _ rest c.last_of.ensures c.in-Some.ensures
    ∙ ap (λ t. items_from l first (cond t next last) rest) (sym (c.is_lt.ensures ∙ ap is_lt order))

pub joined-smaller-then-is_lt : goal.joined-smaller-then-is_lt
joined-smaller-then-is_lt g c = shorter _ _ _ c.in-Some.ensures.1

pub joined-preserved-then-is_lt : goal.joined-preserved-then-is_lt
joined-preserved-then-is_lt g c = rw c.if-is_lt.true at (joined g (goal.at.joined-preserved-then-is_lt g c).After-is_lt)

pub joined-smaller-then-is_lt-2 : goal.joined-smaller-then-is_lt-2
joined-smaller-then-is_lt-2 g c = shorter _ _ _ c.in-Some.ensures.1

pub joined-preserved-then-is_lt-2 : goal.joined-preserved-then-is_lt-2
joined-preserved-then-is_lt-2 g c = rw c.if-is_lt.true at (joined g (goal.at.joined-preserved-then-is_lt-2 g c).After-is_lt)

pub joined-smaller : goal.joined-smaller
joined-smaller g c = shorter _ _ _ c.in-Some.ensures.1

pub joined-preserved : goal.joined-preserved
joined-preserved g c = rw c.if-is_lt.false at (joined g (goal.at.joined-preserved g c).After-is_lt)

pub returns-clause-same : goal.returns-clause-same
returns-clause-same g c = rw (c.in_default.ensures.0, c.in_default.ensures.1) c.joined.invariant

pub returns-clause-ended : goal.returns-clause-ended
returns-clause-ended g c = rw (c.in_default.ensures.0, c.in_default.ensures.1) (whole g.C.Range.KeyRange.places _ _ c.last_of.result.now _ c.last_of.ensures c.in_default.ensures.2)
