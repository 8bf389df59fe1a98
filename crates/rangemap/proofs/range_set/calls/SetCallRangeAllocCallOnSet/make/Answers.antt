use Rattle.std.proofs.Common.{arith, ◌≡◌, ◌++◌, ◌∷◌, [], ap, length, refl, subst, take, ◌∙◌}
use Rattle.std.proofs.IntoIterSteps.{All-taken}
use Rattle.std.proofs.lemmas.Result.{IfOk-weaker, MatchResult-weaker}
use Rattle.std.specs.Vec.Iter.{into_iter_items}
use Rattle.rangemap_core.specs.Ranges.{IsCanonOfPoints, covers, unit_eq, with_unit}
use Rattle.rangemap_core.specs.Sets.{Adds}
use Rattle.rangemap_core.proofs.IncomingRangeLemmas.{listed}
use Rattle.rangemap_core.proofs.IncomingLemmas.{taken_front, taken_less}
use Rattle.rangemap_containers.specs.Histories.{Makes}
use Rattle.rangemap.specs.SetHistories.{SetHasNonEmptyRanges, SetStep}
use Rattle.rangemap.specs.declared.range_set.calls.SetCall.TheVariants.{FromIter}
use Rattle.rangemap_containers.proofs.ReplayLemmas.{added_or_not, new_made}
use Rattle.rangemap.proofs.SetReplayLemmas.{extend_here, extend_past, from_iter_made}
use Rattle.rangemap.proofs.SetRoundTripLemmas.{unit_equiv}
use Rattle.rangemap.proofs.range_set.calls.SetCallRangeAllocCallOnSet.make.Goals as goal

pub returns-in-New-clause-made : goal.returns-in-New-clause-made
returns-in-New-clause-made g c =
    let k = g.S.Kind.Kind.kind in
    let added : c.push_made.new.containers.items ≡ c.args.sets.now.items ++ c.new_with_step_fns.result ∷ [] = c.push_made.ensures.ok in
    rw c.in-New.is (rw c.push_made.ensures.answer (rw added (new_made k (unit_equiv k) (with_unit k) c.args.sets.now.items c.new_with_step_fns.result (ap (with_unit k) c.new_with_step_fns.ensures))))

pub from_items-requires-clause-non_empty : goal.from_items-requires-clause-non_empty
from_items-requires-clause-non_empty g c it h =
    listed g.S.Kind.Kind.kind into_iter_items h.3 it _ h.0 (subst (SetHasNonEmptyRanges g.S.Kind.Kind.kind) c.in-FromIter.is c.requires.non_empty)

pub returns-in-FromIter-clause-made : goal.returns-in-FromIter-clause-made
returns-in-FromIter-clause-made g c =
    let k = g.S.Kind.Kind.kind in
    let sets = c.args.sets.now.items in
    let given = c.in-FromIter.ranges in
    rw c.in-FromIter.is (
    added_or_not (λ set. IsCanonOfPoints k (covers k given.items) set)
    (Makes k (unit_eq k) (with_unit k) (SetStep k) sets (FromIter given))
    sets c.push_made-in-FromIter.new.containers.items c.from_items.result c.push_made-in-FromIter.result
    (from_iter_made k sets given)
    (λ fs h. (fs, refl, h))
    (IfOk-weaker c.from_items.result _ _ (λ set made. subst (λ rs. IsCanonOfPoints k (covers k rs) set) (All-taken made.0 made.1 made.3 ∙ made.2.0) made.4) c.from_items.ensures.items)
    c.push_made-in-FromIter.ensures.answer c.push_made-in-FromIter.ensures.ok c.push_made-in-FromIter.ensures.err)

pub extend-requires-clause-non_empty : goal.extend-requires-clause-non_empty
extend-requires-clause-non_empty g c it h =
    listed g.S.Kind.Kind.kind into_iter_items h.3 it _ h.0 (subst (SetHasNonEmptyRanges g.S.Kind.Kind.kind) c.in-Extend.is c.requires.non_empty)

pub returns-in-Some-clause-made : goal.returns-in-Some-clause-made
returns-in-Some-clause-made g c =
    let ran = c.extend.ensures.items in
    let k = g.S.Kind.Kind.kind in
    let before = c.in-Some.set.now in
    let after = c.extend.new.self in
    rw c.in-Extend.is (
    rw c.is_ok.ensures.value (extend_here k c.args.sets.now.items c.in-Extend.at c.in-Extend.ranges before after c.in-Some.ensures.item.3.0 c.in-Some.ensures.value
    c.extend.result
    (MatchResult-weaker c.extend.result ran.4 (λ u d. subst (λ rs. Adds k before rs after) (All-taken ran.0 ran.1 d ∙ ran.2.0) ran.3) (λ _ _. tt))
    (MatchResult-weaker c.extend.result c.extend.ensures.err (λ _ _. tt) (λ u y. (
      length y.1,
      omega (arith, taken_less y.0 y.1 y.2 y.3 y.4 y.6 y.7, ap length y.5.0),
      subst (λ rs. Adds k before rs after) (taken_front y.0 y.1 y.2 y.6 ∙ ap (take (length y.1)) y.5.0) y.8,
    )))))

pub returns-in-Extend-clause-made : goal.returns-in-Extend-clause-made
returns-in-Extend-clause-made g c =
    rw c.in-Extend.is (extend_past g.S.Kind.Kind.kind c.args.sets.now.items c.in-Extend.at c.in-Extend.ranges c.in-None.ensures.item.3)

pub returns-in-Insert-clause-made : goal.returns-in-Insert-clause-made
returns-in-Insert-clause-made g c = rw c.in-Insert.is c.make.ensures.made

pub returns-in-Remove-clause-made : goal.returns-in-Remove-clause-made
returns-in-Remove-clause-made g c = rw c.in-Remove.is c.make-in-Remove.ensures.made

pub returns-in-Clear-clause-made : goal.returns-in-Clear-clause-made
returns-in-Clear-clause-made g c = rw c.in-Clear.is c.make-in-Clear.ensures.made

pub returns-in-Clone-clause-made : goal.returns-in-Clone-clause-made
returns-in-Clone-clause-made g c = rw c.in-Clone.is c.make-in-Clone.ensures.made

pub returns-in-Union-clause-made : goal.returns-in-Union-clause-made
returns-in-Union-clause-made g c = rw c.in-Union.is c.push_joined.ensures.made

pub returns-in-Intersection-clause-made : goal.returns-in-Intersection-clause-made
returns-in-Intersection-clause-made g c = rw c.in-Intersection.is c.push_joined-in-Intersection.ensures.made

pub returns-in-Difference-clause-made : goal.returns-in-Difference-clause-made
returns-in-Difference-clause-made g c = rw c.in-Difference.is c.push_joined-in-Difference.ensures.made

pub returns-clause-made : goal.returns-clause-made
returns-clause-made g c = rw c.in-SymmetricDifference.is c.push_joined-in-SymmetricDifference.ensures.made
