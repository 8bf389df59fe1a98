use Rattle.std.proofs.Common.{rules, ◌≡◌, ◌&&◌, List, ◌∷◌, true, cond, is_lt, ap, subst, ◌∙◌}
use Rattle.rangemap_core.specs.Sets.{AreNonEmptyRanges, ranges}
use Rattle.rangemap_core.specs.operations.Places.{RangePlaces}
use Rattle.rangemap_unions.specs.Items.{common_from, earlier_end, intersection_items, later_start, reaches}
use Rattle.rangemap_unions.proofs.ItemLemmas.{ends_compared, in_order}
use Rattle.rangemap_unions.proofs.intersection.Sides.try_next.Goals as goal

-- the item that two ranges begin with, which reach one another
first_item : {X P : Type 0} (l : RangePlaces P X) (a b : X) (left right ps qs : List X) → left ≡ a ∷ ps → right ≡ b ∷ qs → (reaches l a b && reaches l b a) ≡ true
    → intersection_items l left right ≡ l.between (later_start l a b) (earlier_end l a b) ∷ cond (is_lt (l.order (l.end_place a) (l.end_place b))) (intersection_items l ps (b ∷ qs)) (common_from l a (intersection_items l ps) qs)
first_item l a b left right ps qs left-is right-is both =
    let rest = cond (is_lt (l.order (l.end_place a) (l.end_place b))) (intersection_items l ps (b ∷ qs)) (common_from l a (intersection_items l ps) qs) in
    ap (λ rs. intersection_items l rs right) left-is
    ∙ ap (intersection_items l (a ∷ ps)) right-is
    ∙ ap (λ t. cond t (l.between (later_start l a b) (earlier_end l a b) ∷ rest) rest) both

pub common_part-requires-clause-ends : goal.common_part-requires-clause-ends
common_part-requires-clause-ends g c =
    c.is_lt-left_ends_first.ensures ∙ ap is_lt (◌∙◌ {b = g.C.Range.Key.Ord.cmp c.end.result.now c.end-in-Some-Some.result.now} c.cmp.ensures (ends_compared g.met.C.Range.KeyRange.has_places g.met.C.Range.KeyRange.order c.parts.result.0.now c.parts-in-Some-Some.result.0.now _ _ c.end.ensures c.end-in-Some-Some.ensures))

pub common_part-requires-clause-in_order : goal.common_part-requires-clause-in_order
common_part-requires-clause-in_order g c =
    let l = g.C.Range.KeyRange.places in
    let p = c.parts.result.0.now in
    let q = c.parts-in-Some-Some.result.0.now in
    let ps = ranges c.in-Some-Some.ensures.first.0 in
    let qs = ranges c.in-Some-Some.ensures'.first.0 in
    let left = ranges (g.C.Cursor.left c.both.self.left) in
    let right = ranges (g.C.Cursor.left c.both.self.right) in
    let left-is : left ≡ p ∷ ps = rw (c.parts.ensures.range) (ap ranges c.in-Some-Some.ensures.first.1) in
    let right-is : right ≡ q ∷ qs = rw (c.parts-in-Some-Some.ensures.range) (ap ranges c.in-Some-Some.ensures'.first.1) in
    let items : AreNonEmptyRanges g.C.Range.KeyRange.read (intersection_items l left right) = subst (AreNonEmptyRanges g.C.Range.KeyRange.read) c.both.invariant c.requires.non_empty in
    λ both. in_order g.met.C.Range.KeyRange.has_places (later_start l p q) (earlier_end l p q) (intersection_items l left right) _ (first_item l p q left right ps qs left-is right-is both) items

pub common_part-requires-clause-faithful_keys : goal.common_part-requires-clause-faithful_keys
common_part-requires-clause-faithful_keys g c = c.requires.faithful_keys

pub returns-then-is_some-clause-ok : goal.returns-then-is_some-clause-ok
returns-then-is_some-clause-ok g c =
    let l = g.C.Range.KeyRange.places in
    let p = c.parts.result.0.now in
    let q = c.parts-in-Some-Some.result.0.now in
    let ordered : c.cmp.result ≡ l.order (l.end_place p) (l.end_place q) = ◌∙◌ {b = g.C.Range.Key.Ord.cmp c.end.result.now c.end-in-Some-Some.result.now} c.cmp.ensures (ends_compared g.met.C.Range.KeyRange.has_places g.met.C.Range.KeyRange.order p q _ _ c.end.ensures c.end-in-Some-Some.ensures) in
    search rules

pub both-preserved : goal.both-preserved
both-preserved g c =
    let l = g.C.Range.KeyRange.places in
    let p = c.parts.result.0.now in
    let q = c.parts-in-Some-Some.result.0.now in
    let ordered : c.cmp.result ≡ l.order (l.end_place p) (l.end_place q) = ◌∙◌ {b = g.C.Range.Key.Ord.cmp c.end.result.now c.end-in-Some-Some.result.now} c.cmp.ensures (ends_compared g.met.C.Range.KeyRange.has_places g.met.C.Range.KeyRange.order p q _ _ c.end.ensures c.end-in-Some-Some.ensures) in
    search rules
