use Rattle.std.proofs.Common.{refl, subst, sym}
use Rattle.rangemap_core.specs.NonEmptyPairs.{GivesNothing}
use Rattle.rangemap_core.proofs.IncomingLemmas.{none_next, none_taken}
use Rattle.rangemap_core.proofs.AppendLemmas.{put_behind_none}
use Rattle.rangemap_core.proofs.gaps.append_items.Goals as goal

pub returns-then-not-is_pushed-clause-of_nothing : goal.returns-then-not-is_pushed-clause-of_nothing
returns-then-not-is_pushed-clause-of_nothing g c = λ none.
    let steps = g.I.Iterator.next_gives in
    let gives = subst (GivesNothing steps) (sym c.into_iter-gap-iterator.ensures.into_iter_gives) none in
    absurd (none_next steps c.into_iter-gap-iterator.result c.loop-gap.yielded c.loop-gap.gap-iterator c.in-Some.gap c.next.new.self gives c.loop-gap.yielded_by c.in-Some.ensures.steps)

pub returns-clause-of_nothing : goal.returns-clause-of_nothing
returns-clause-of_nothing g c = λ none.
    let steps = g.I.Iterator.next_gives in
    let gives = subst (GivesNothing steps) (sym c.into_iter-gap-iterator.ensures.into_iter_gives) none in
    let taken = none_taken steps c.into_iter-gap-iterator.result c.loop-gap.yielded c.loop-gap.gap-iterator gives c.loop-gap.yielded_by in
    (refl, put_behind_none c.loop-gap.invariant.0 c.loop-gap.yielded c.args.out.now.items c.loop-gap.out.items taken c.loop-gap.invariant.1 c.loop-gap.invariant.2)
