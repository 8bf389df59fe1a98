use Rattle.std.proofs.Common.{refl, subst, sym}
use Rattle.std.specs.Fn.{FnReturnsAt}
use Rattle.std.specs.Vec.Iter.{into_iter_items}
use Rattle.rangemap_core.specs.Ranges.{overlapped}
use Rattle.rangemap_core.proofs.AppendLemmas.{appended_alone}
use Rattle.rangemap_core.proofs.IncomingLemmas.{where_refused}
use Rattle.rangemap_containers.specs.Updates.{UpdatesSome}
use Rattle.rangemap_containers.proofs.UpdateLemmas.{all_done, none_done, one_more_done, some_done}
use Rattle.rangemap_containers.proofs.container.updates.update.Goals as goal

pub pairs-init : goal.pairs-init
pairs-init g c =
    let k = g.M.Kind.Kind.kind in
    let old = g.M.Container.pairs c.args.container.now in
    let items = c.append_overlapping.new.out.items in
    rw c.into_iter-rest.ensures.rest
    (none_done k g.met.M.Value.Eq.laws (FnReturnsAt g.F.Fn c.args.change) c.args.range.now old items c.known.ensures
    (appended_alone k g.M.Value.PartialEq.eq (overlapped k old c.args.range.now) c.new-found.result.items items c.new-found.ensures.items c.in_ok-append_overlapping.ensures.ok).0)

pub returns-in_err-changed-clause-err : goal.returns-in_err-changed-clause-err
returns-in_err-changed-clause-err g c =
    where_refused _ c.from_residual-in_err-changed.result c.from_residual-in_err-changed.ensures.0
    (some_done g.M.Kind.Kind.kind g.met.M.Value.Eq.laws (FnReturnsAt g.F.Fn c.args.change) c.args.range.now (g.M.Container.pairs c.args.container.now) g.met.M.Kind.Kind.interval c.pairs.invariant (c.in-Some.stored, c.in-Some.value) (into_iter_items c.take_first.new.self) (rw c.in-Some.is at c.take_first.ensures))

pub returns-in_err-insert_shared-clause-err : goal.returns-in_err-insert_shared-clause-err
returns-in_err-insert_shared-clause-err g c =
    let k = g.M.Kind.Kind.kind in
    let answers = FnReturnsAt g.F.Fn c.args.change in
    let old = g.M.Container.pairs c.args.container.now in
    where_refused _ c.from_residual-in_err-insert_shared.result c.from_residual-in_err-insert_shared.ensures.0
    (subst (UpdatesSome k g.M.Value.PartialEq.eq answers c.args.range.now old) (sym c.in_err-insert_shared.ensures.err)
    (some_done k g.met.M.Value.Eq.laws answers c.args.range.now old g.met.M.Kind.Kind.interval c.pairs.invariant (c.in-Some.stored, c.in-Some.value) (into_iter_items c.take_first.new.self) (rw c.in-Some.is at c.take_first.ensures)))

pub pairs-preserved : goal.pairs-preserved
pairs-preserved g c =
    one_more_done g.M.Kind.Kind.kind g.met.M.Value.Eq.laws (FnReturnsAt g.F.Fn c.args.change) c.args.range.now (g.M.Container.pairs c.args.container.now) c.pairs.invariant (c.in-Some.stored, c.in-Some.value) (into_iter_items c.take_first.new.self) (rw c.in-Some.is at c.take_first.ensures)
    (g.M.Container.pairs c.insert_shared.new.container) c.in_ok-changed.changed (record { shown = _; shows = refl; says = record { met = c.in_ok-changed.ensures } }) c.in_ok-insert_shared.ensures.ok

pub returns-clause-ok : goal.returns-clause-ok
returns-clause-ok g c =
    all_done g.M.Kind.Kind.kind g.met.M.Value.Eq.laws (FnReturnsAt g.F.Fn c.args.change) c.args.range.now (g.M.Container.pairs c.args.container.now) g.met.M.Kind.Kind.placed g.met.M.Kind.Kind.interval c.known_ends.ensures c.known.ensures c.pairs.invariant (rw c.in_default.is at c.take_first.ensures).0
