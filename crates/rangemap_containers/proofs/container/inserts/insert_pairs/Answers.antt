use Rattle.std.proofs.Common.{arith, ap, length, length-append, refl}
use Rattle.rangemap_core.proofs.IncomingLemmas.{none_next, none_taken}
use Rattle.std.proofs.Common.{subst, sym}
use Rattle.rangemap_core.specs.Ranges.{Overrides}
use Rattle.rangemap_core.proofs.CanonLemmas.{Overrides-last, Overrides-none}
use Rattle.rangemap_core.proofs.IncomingLemmas.{at_turn, where_refused}
use Rattle.rangemap_containers.proofs.container.inserts.insert_pairs.Goals as goal

pub loop-range-init : goal.loop-range-init
loop-range-init g c = record { inserted = Overrides-none g.M.Kind.Kind.kind g.met.M.Value.Eq.laws _ c.known.ensures; of_nothing = λ e. refl }

pub insert-requires-clause-non_empty : goal.insert-requires-clause-non_empty
insert-requires-clause-non_empty g c =
    let it = c.into_iter-range-iterator in
    at_turn g.M.Kind.Kind.kind it.result c.loop-range.yielded c.loop-range.range-iterator (c.in-Some.range, c.in-Some.value) c.next.new.self (c.requires.non_empty it.result it.ensures.into_iter_gives) c.loop-range.yielded_by c.in-Some.ensures.steps

pub loop-range-preserved : goal.loop-range-preserved
loop-range-preserved g c = record {
  inserted = Overrides-last g.M.Kind.Kind.kind g.met.M.Value.Eq.laws (g.M.Container.pairs c.args.container.now) (g.M.Container.pairs c.loop-range.container) (g.M.Container.pairs c.insert.new.self) c.loop-range.yielded (c.in-Some.range, c.in-Some.value) c.loop-range.invariant.inserted c.in_ok-insert.ensures.ok;
  of_nothing = λ e. absurd (omega (arith, simp length-append at (ap length e)));
}

pub returns-in_err-insert-clause-items : goal.returns-in_err-insert-clause-items
returns-in_err-insert-clause-items g c =
    let it = c.into_iter-range-iterator in
    let kept = subst (Overrides g.M.Kind.Kind.kind g.M.Value.PartialEq.eq (g.M.Container.pairs c.args.container.now) c.loop-range.yielded) (sym c.in_err-insert.ensures.err) c.loop-range.invariant.inserted in
    (it.result, c.loop-range.yielded, it.ensures.into_iter_gives, kept, where_refused _ c.from_residual.result c.from_residual.ensures.0 (c.loop-range.range-iterator, c.loop-range.yielded_by))

pub returns-in_err-insert-clause-err : goal.returns-in_err-insert-clause-err
returns-in_err-insert-clause-err g c =
    let it = c.into_iter-range-iterator in
    let kept = subst (Overrides g.M.Kind.Kind.kind g.M.Value.PartialEq.eq (g.M.Container.pairs c.args.container.now) c.loop-range.yielded) (sym c.in_err-insert.ensures.err) c.loop-range.invariant.inserted in
    where_refused _ c.from_residual.result c.from_residual.ensures.0 (it.result, c.loop-range.yielded, c.loop-range.range-iterator, (c.in-Some.range, c.in-Some.value), c.next.new.self, it.ensures.into_iter_gives, c.loop-range.yielded_by, c.in-Some.ensures.steps, kept)

pub returns-clause-of_nothing : goal.returns-clause-of_nothing
returns-clause-of_nothing g c = λ none.
    let it = c.into_iter-range-iterator in
    (refl, c.loop-range.invariant.of_nothing (none_taken g.I.IntoIter.Iterator.next_gives it.result c.loop-range.yielded c.loop-range.range-iterator (none it.result it.ensures.into_iter_gives) c.loop-range.yielded_by))

pub returns-in_err-insert-clause-of_nothing : goal.returns-in_err-insert-clause-of_nothing
returns-in_err-insert-clause-of_nothing g c = λ none.
    let it = c.into_iter-range-iterator in
    absurd (none_next g.I.IntoIter.Iterator.next_gives it.result c.loop-range.yielded c.loop-range.range-iterator (c.in-Some.range, c.in-Some.value) c.next.new.self (none it.result it.ensures.into_iter_gives) c.loop-range.yielded_by c.in-Some.ensures.steps)
