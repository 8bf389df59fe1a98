use Rattle.std.proofs.Common.{◌≡◌, List, ◌∷◌, Option, Some, ap, refl, sym, subst, ◌∙◌, unwrap_or}
use Rattle.rangemap_core.specs.MadeRanges.{IsSame, TakesRange}
use Rattle.rangemap_core.specs.Ranges.{RangeKind}
use Rattle.rangemap_core.specs.Sets.{ranges}
use Rattle.rangemap_core.specs.Shown.{shown_range}
use Rattle.rangemap_unions.specs.Items.{items_of, merged}
use Rattle.rangemap_unions.specs.Merged.{items_left}
use Rattle.rangemap_unions.proofs.ItemLemmas.{in_order}
use Rattle.rangemap_unions.proofs.union.Sides.try_next.Goals as goal

-- the same call, by lists that are equal to those it was told of
taken : {K X : Type 0} (k : RangeKind K X) (old items rest new : List X) (item : Option X) → old ≡ items → new ≡ rest → TakesRange k items item rest → TakesRange k old item new
taken k old items rest new item old-is new-is h = subst (λ rs. TakesRange k rs item new) (sym old-is) (subst (TakesRange k items item) (sym new-is) h)

pub between-requires-clause-in_order : goal.between-requires-clause-in_order
between-requires-clause-in_order g c =
    let l = g.C.Range.KeyRange.places in
    let target = shown_range g.C.Cursor.given in
    let rest = items_of l (merged l (ranges (g.C.Cursor.left c.join.new.left)) (ranges (g.C.Cursor.left c.join.new.right))) in
    rw (c.parts.ensures.range, c.last_of.ensures) (in_order g.met.C.Range.KeyRange.has_places (target c.in-Some.first) (target (unwrap_or c.join.new.last c.in-Some.first)) _ rest (c.in-Some.ensures.begun ∙ c.join.ensures.same ∙ c.join.ensures.ended) c.requires.non_empty)

pub returns-in-Ok-clause-ok : goal.returns-in-Ok-clause-ok
returns-in-Ok-clause-ok g c =
    let l = g.C.Range.KeyRange.places in
    let target = shown_range g.C.Cursor.given in
    let left = g.C.Cursor.left c.join.new.left in
    let right = g.C.Cursor.left c.join.new.right in
    let rest = items_of l (merged l (ranges left) (ranges right)) in
    let item = l.between (target c.in-Some.first) (target (unwrap_or c.join.new.last c.in-Some.first)) in
    let made : IsSame g.C.Range.KeyRange.read item c.in-Ok.item = rw (c.parts.ensures.range, c.last_of.ensures) at c.in-Ok.ensures.made in
    taken g.C.Range.KeyRange.read _ (item ∷ rest) rest _ (Some c.in-Ok.item) (c.in-Some.ensures.begun ∙ c.join.ensures.same ∙ c.join.ensures.ended)
    (ap (λ first. items_left l g.C.Cursor.given first c.begin.new.self.last left right) c.in-Some.ensures.none_begun)
    (item, refl, made)
