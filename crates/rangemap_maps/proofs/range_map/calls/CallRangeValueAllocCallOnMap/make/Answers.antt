use Rattle.std.proofs.Common.{arith, ap, length, refl, subst, take, ◌∙◌}
use Rattle.std.proofs.IntoIterSteps.{All-taken}
use Rattle.std.proofs.lemmas.Result.{IfOk-weaker, MatchResult-weaker}
use Rattle.std.specs.Vec.Iter.{into_iter_items}
use Rattle.rangemap_core.specs.Ranges.{IsCanonOf, Overrides, nothing, override_all}
use Rattle.rangemap_core.proofs.IncomingLemmas.{listed, taken_front, taken_less}
use Rattle.rangemap_containers.specs.Histories.{Makes}
use Rattle.rangemap_containers.proofs.ReplayLemmas.{added_or_not}
use Rattle.rangemap_maps.specs.MapHistories.{HasNonEmptyRanges, Step}
use Rattle.rangemap_maps.specs.declared.range_map.calls.Call.TheVariants.{FromIter}
use Rattle.rangemap_maps.proofs.MapReplayLemmas.{extend_here, extend_past, from_iter_made}
use Rattle.rangemap_maps.proofs.range_map.calls.CallRangeValueAllocCallOnMap.make.Goals as goal

pub from_items-requires-clause-non_empty : goal.from_items-requires-clause-non_empty
from_items-requires-clause-non_empty g c it h =
    listed g.S.Kind.Kind.kind into_iter_items h.3 it _ h.0 (subst (HasNonEmptyRanges g.S.Kind.Kind.kind) c.in-FromIter.is c.requires.non_empty)

pub returns-in-FromIter-clause-made : goal.returns-in-FromIter-clause-made
returns-in-FromIter-clause-made g c =
    let k = g.S.Kind.Kind.kind in
    let maps = c.args.maps.now.items in
    let pairs = c.in-FromIter.pairs in
    rw c.in-FromIter.is (
    added_or_not (λ map. IsCanonOf k g.S.Value.PartialEq.eq (override_all k nothing pairs.items) map)
    (Makes k g.S.Value.PartialEq.eq (λ map. map) (Step k) maps (FromIter pairs))
    maps c.push_made.new.containers.items c.from_items.result c.push_made.result
    (from_iter_made k g.met.S.Value.Eq.laws maps pairs)
    (λ fs h. (fs, refl, h))
    (IfOk-weaker c.from_items.result _ _ (λ map made. subst (λ ps. IsCanonOf k g.S.Value.PartialEq.eq (override_all k nothing ps) map) (All-taken made.0 made.1 made.3 ∙ made.2.0) made.4) c.from_items.ensures.items)
    c.push_made.ensures.answer c.push_made.ensures.ok c.push_made.ensures.err)

pub extend-requires-clause-non_empty : goal.extend-requires-clause-non_empty
extend-requires-clause-non_empty g c it h =
    listed g.S.Kind.Kind.kind into_iter_items h.3 it _ h.0 (subst (HasNonEmptyRanges g.S.Kind.Kind.kind) c.in-Extend.is c.requires.non_empty)

pub returns-in-Some-clause-made : goal.returns-in-Some-clause-made
returns-in-Some-clause-made g c =
    let ran = c.extend.ensures.items in
    let k = g.S.Kind.Kind.kind in
    let eq = g.S.Value.PartialEq.eq in
    let before = c.in-Some.map.now in
    let after = c.extend.new.self in
    rw c.in-Extend.is (
    rw c.is_ok.ensures.value (extend_here k g.met.S.Value.Eq.laws c.args.maps.now.items c.in-Extend.pairs c.in-Extend.at before after c.in-Some.ensures.item.3.0 c.in-Some.ensures.value
    c.extend.result
    (MatchResult-weaker c.extend.result ran.4 (λ u d. subst (λ ps. Overrides k eq before ps after) (All-taken ran.0 ran.1 d ∙ ran.2.0) ran.3) (λ _ _. tt))
    (MatchResult-weaker c.extend.result c.extend.ensures.err (λ _ _. tt) (λ u y. (
      length y.1,
      omega (arith, taken_less y.0 y.1 y.2 y.3 y.4 y.6 y.7, ap length y.5.0),
      subst (λ ps. Overrides k eq before ps after) (taken_front y.0 y.1 y.2 y.6 ∙ ap (take (length y.1)) y.5.0) y.8,
    )))))

pub returns-clause-made : goal.returns-clause-made
returns-clause-made g c =
    rw c.in-Extend.is (extend_past g.S.Kind.Kind.kind g.met.S.Value.Eq.laws c.args.maps.now.items c.in-Extend.pairs c.in-Extend.at c.in-None.ensures.item.3)
