use Rattle.std.proofs.Common.{arith, ◌≡◌, ap, subst, sym, ◌∙◌}
use Rattle.std.proofs.lemmas.Grind.{common_steps}
use Rattle.std.proofs.lemmas.List.{map-append}
use Rattle.std.specs.Iterator.Adapters.{zip_first, zip_second}
use Rattle.std.specs.Vec.Iter.{into_iter_items, into_iter_len}
use Rattle.rangemap_containers.specs.Histories.{Makes, Run}
use Rattle.rangemap_containers.proofs.ReplayLemmas.{Run-last, all_of_first}
use Rattle.rangemap_containers.proofs.replay.make_all.Goals as goal

pub loop-call-preserved : goal.loop-call-preserved
loop-call-preserved g c =
    let before = c.loop-call.invariant in
    record {
      made = rw (map-append (λ turn. turn.0) c.loop-call.yielded, c.push_reserved.ensures.items) (Run-last (Makes g.M.Kind.Kind.kind g.M.Value.PartialEq.eq g.M.Container.pairs g.C.CallOn.step) c.args.containers.now.items c.loop-call.containers.items c.make.new.containers.items _ c.loop-call.answers.items c.in-Some.call c.make.result before.made c.make.ensures.made);
      room = grind (arith, common_steps);
      answered = grind (arith, common_steps);
      room_for_answers = grind (arith, common_steps);
    }

pub make-requires-clause-faithful_keys : goal.make-requires-clause-faithful_keys
make-requires-clause-faithful_keys g c = c.requires.faithful_keys

pub make-requires-clause-faithful_values : goal.make-requires-clause-faithful_values
make-requires-clause-faithful_values g c = c.requires.faithful_values

pub returns : goal.returns
returns g c =
    let zipped = c.zip-call-items.ensures in
    let gives = c.into_iter-call-iterator.ensures.into_iter_gives in
    let same : into_iter_len (zip_first c.into_iter-call-iterator.result) ≡ into_iter_len (zip_second c.into_iter-call-iterator.result) = rw gives (ap into_iter_len zipped.first ∙ c.into_iter.ensures.len ∙ sym c.requires.allocators ∙ sym zipped.second.1) in
    let taken = all_of_first _ _ _ _ c.into_iter-call-iterator.result c.loop-call.yielded c.loop-call.call-iterator c.next.new.self same c.loop-call.yielded_by c.in-None.ensures.steps in
    subst (λ calls. Run (Makes g.M.Kind.Kind.kind g.M.Value.PartialEq.eq g.M.Container.pairs g.C.CallOn.step) c.args.containers.now.items calls c.loop-call.answers.items c.loop-call.containers.items)
    (taken ∙ ap (λ it. into_iter_items (zip_first it)) gives ∙ ap into_iter_items zipped.first ∙ c.into_iter.ensures.rest)
    c.loop-call.invariant.made
