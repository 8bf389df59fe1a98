use Rattle.std.proofs.Common.{◌≡◌, ◌++◌, ◌∷◌, [], refl, subst}
use Rattle.rangemap_core.specs.Ranges.{IsCanonOf, IsStorable, value_at}
use Rattle.rangemap_containers.specs.Histories.{ChangeStep, HasNonEmptyRange, Makes}
use Rattle.rangemap_containers.specs.declared.calls.Change.TheVariants.{Clone}
use Rattle.rangemap_containers.proofs.ReplayLemmas.{added_or_not, clear_here, clear_past, clone_here, insert_here, new_made, remove_here, remove_past}
use Rattle.rangemap_containers.proofs.replay.changes.ChangeRangeValueCallOn.make.Goals as goal

pub returns-in-New-clause-made : goal.returns-in-New-clause-made
returns-in-New-clause-made g c =
    let added : c.push_made.new.containers.items ≡ c.args.containers.now.items ++ c.new_with_step_fns.result ∷ [] = c.push_made.ensures.ok in
    rw c.in-New.is (rw c.push_made.ensures.answer (rw added (new_made g.M.Kind.Kind.kind g.met.M.Value.Eq.laws g.M.Container.pairs c.args.containers.now.items c.new_with_step_fns.result c.new_with_step_fns.ensures)))

pub returns-in-Some-clause-made : goal.returns-in-Some-clause-made
returns-in-Some-clause-made g c =
    rw c.in-Insert.is (
    rw c.is_ok.ensures.value (insert_here g.M.Kind.Kind.kind g.met.M.Value.Eq.laws g.M.Container.pairs c.args.containers.now.items c.in-Insert.at c.in-Some.container.now c.insert.new.self c.in-Some.ensures.item.3.0 c.in-Some.ensures.value
    c.in-Insert.range c.in-Insert.value c.insert.result c.insert.ensures.ok c.insert.ensures.err))

pub returns-in-Some-get_mut-clause-made : goal.returns-in-Some-get_mut-clause-made
returns-in-Some-get_mut-clause-made g c =
    let k = g.M.Kind.Kind.kind in
    let there = c.in-Some-get_mut.ensures in
    let stored : IsStorable k c.in-Remove.range = record { start_is_key = c.known_ends.ensures.start_is_key; end_is_key = c.known_ends.ensures.end_is_key; non_empty = subst (HasNonEmptyRange k) c.in-Remove.is c.requires.non_empty } in
    rw c.in-Remove.is (
    rw c.is_ok-in-Some-get_mut.ensures.value (remove_here k g.met.M.Value.Eq.laws g.M.Container.pairs c.args.containers.now.items c.in-Remove.at c.in-Some-get_mut.container.now c.remove.new.self there.item.3.0 there.value
    g.met.M.Kind.Kind.placed c.in-Remove.range stored c.remove.result c.remove.ensures.ok c.remove.ensures.err c.remove.ensures.meets_nothing))

pub returns-in-Remove-clause-made : goal.returns-in-Remove-clause-made
returns-in-Remove-clause-made g c =
    rw c.in-Remove.is (remove_past g.M.Kind.Kind.kind g.met.M.Value.Eq.laws g.M.Container.pairs c.args.containers.now.items c.in-Remove.at c.in-None-get_mut.ensures.item.3 c.in-Remove.range)

pub returns-in-Some-get_mut-2-clause-made : goal.returns-in-Some-get_mut-2-clause-made
returns-in-Some-get_mut-2-clause-made g c =
    let there = c.in-Some-get_mut-2.ensures in
    rw c.in-Clear.is (clear_here g.M.Kind.Kind.kind g.met.M.Value.Eq.laws g.M.Container.pairs c.args.containers.now.items c.in-Clear.at c.in-Some-get_mut-2.container.now c.clear.new.self there.item.3.0 there.value c.clear.ensures)

pub returns-in-Clear-clause-made : goal.returns-in-Clear-clause-made
returns-in-Clear-clause-made g c =
    rw c.in-Clear.is (clear_past g.M.Kind.Kind.kind g.met.M.Value.Eq.laws g.M.Container.pairs c.args.containers.now.items c.in-Clear.at c.in-None-get_mut-2.ensures.item.3)

pub returns-clause-made : goal.returns-clause-made
returns-clause-made g c =
    let k = g.M.Kind.Kind.kind in
    let e = g.met.M.Value.Eq.laws in
    let shown = g.M.Container.pairs in
    let containers = c.args.containers.now.items in
    let container = c.in-Some-get.container.now in
    let there = c.in-Some-get.ensures.lookup in
    rw c.in-Clone.is (
    added_or_not (λ copy. IsCanonOf k g.M.Value.PartialEq.eq (value_at k (shown container)) (shown copy))
    (Makes k g.M.Value.PartialEq.eq shown (ChangeStep k) containers (Clone c.in-Clone.at))
    containers c.push_made-in-Clone.new.containers.items c.clone-made.result c.push_made-in-Clone.result
    (λ copy canon. clone_here k e shown containers c.in-Clone.at container copy (rw c.deref.ensures.value at there.3.0) (rw c.deref.ensures.value at there.1) canon)
    (λ fs h. (fs, refl, h))
    c.clone-made.ensures.canon c.push_made-in-Clone.ensures.answer c.push_made-in-Clone.ensures.ok c.push_made-in-Clone.ensures.err)
