use Rattle.std.proofs.Common.{arith, ap, length, length-append, refl, subst, sym}
use Rattle.rangemap_core.specs.Sets.{Adds}
use Rattle.rangemap_core.proofs.IncomingLemmas.{none_next, none_taken, where_refused}
use Rattle.rangemap_unions.proofs.IncomingRangeLemmas.{at_turn}
use Rattle.rangemap_unions.proofs.UnitValueLemmas.{adds_last, adds_none}
use Rattle.rangemap.proofs.range_set.Set.extend.Goals as goal

pub loop-range-init : goal.loop-range-init
loop-range-init g c = record { added = adds_none g.S.Kind.Kind.kind c.args.self.now c.known.ensures; of_nothing = λ e. refl }

pub insert-requires-clause-non_empty : goal.insert-requires-clause-non_empty
insert-requires-clause-non_empty g c =
    let it = c.into_iter-range-iterator in
    g.met.S.Kind.Kind.has_key_of c.in-Some.range (at_turn g.S.Kind.Kind.kind it.result c.loop-range.yielded c.loop-range.range-iterator c.in-Some.range c.next.new.self (c.requires.non_empty it.result it.ensures.into_iter_gives) c.loop-range.yielded_by c.in-Some.ensures.steps)

pub insert-requires-clause-not_exhausted : goal.insert-requires-clause-not_exhausted
insert-requires-clause-not_exhausted g c =
    let it = c.into_iter-range-iterator in
    g.met.S.Kind.Kind.is_fresh_of c.in-Some.range (at_turn g.S.Kind.Kind.kind it.result c.loop-range.yielded c.loop-range.range-iterator c.in-Some.range c.next.new.self (c.requires.non_empty it.result it.ensures.into_iter_gives) c.loop-range.yielded_by c.in-Some.ensures.steps)

pub loop-range-preserved : goal.loop-range-preserved
loop-range-preserved g c = record {
  added = adds_last g.S.Kind.Kind.kind c.args.self.now c.loop-range.self c.insert.new.self c.loop-range.yielded c.in-Some.range c.loop-range.invariant.added c.in_ok-insert.ensures.ok;
  of_nothing = λ e. absurd (omega (arith, simp length-append at (ap length e)));
}

pub returns-in_err-insert-clause-err : goal.returns-in_err-insert-clause-err
returns-in_err-insert-clause-err g c =
    let it = c.into_iter-range-iterator in
    let kept = subst (Adds g.S.Kind.Kind.kind c.args.self.now c.loop-range.yielded) (sym c.in_err-insert.ensures.err) c.loop-range.invariant.added in
    where_refused _ c.from_residual.result c.from_residual.ensures.0 (it.result, c.loop-range.yielded, c.loop-range.range-iterator, c.in-Some.range, c.next.new.self, it.ensures.into_iter_gives, c.loop-range.yielded_by, c.in-Some.ensures.steps, kept)

pub returns-clause-of_nothing : goal.returns-clause-of_nothing
returns-clause-of_nothing g c = λ none.
    let it = c.into_iter-range-iterator in
    (refl, c.loop-range.invariant.of_nothing (none_taken g.I.IntoIter.Iterator.next_gives it.result c.loop-range.yielded c.loop-range.range-iterator (none it.result it.ensures.into_iter_gives) c.loop-range.yielded_by))

pub returns-in_err-insert-clause-of_nothing : goal.returns-in_err-insert-clause-of_nothing
returns-in_err-insert-clause-of_nothing g c = λ none.
    let it = c.into_iter-range-iterator in
    absurd (none_next g.I.IntoIter.Iterator.next_gives it.result c.loop-range.yielded c.loop-range.range-iterator c.in-Some.range c.next.new.self (none it.result it.ensures.into_iter_gives) c.loop-range.yielded_by c.in-Some.ensures.steps)
