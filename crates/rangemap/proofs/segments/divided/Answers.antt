use Rattle.std.proofs.Common.{arith, ◌≡◌, ◌∷◌, [], List, subst}
use Rattle.std.proofs.lemmas.Grind.{common_steps}
use Rattle.std.specs.Cmp.Lexicographic.{options_equiv}
use Rattle.std.specs.Option.{option_eq}
use Rattle.std.specs.Vec.Iter.{into_iter_items}
use Rattle.rangemap_core.specs.Ranges.{Alike, overlapped, value_at}
use Rattle.rangemap_core.specs.Segments.{segments_of}
use Rattle.rangemap_core.proofs.AppendLemmas.{appended_alone}
use Rattle.rangemap_core.proofs.SegmentLemmas.{begun_query, clipped, clipped_next}
use Rattle.rangemap_core.proofs.ClippedCloneLemmas.{clipped_by_clones}
use Rattle.rangemap.proofs.segments.divided.Goals as goal

pub insert_shared-requires-clause-faithful_values : goal.insert_shared-requires-clause-faithful_values
insert_shared-requires-clause-faithful_values g c = λ x y h. grind (arith, common_steps, c.requires.faithful_values)

pub pairs-init : goal.pairs-init
pairs-init g c =
    let k = g.M.Kind.Kind.kind in
    let e = g.met.M.Value.Eq.laws in
    let eq = g.M.Value.PartialEq.eq in
    let q = c.args.query.now in
    let xs = g.M.Container.pairs c.args.container.now in
    let all = c.insert_shared.new.map in
    let whole = segments_of k (value_at k xs) q in
    let begun : Alike k (option_eq eq) (clipped k q (overlapped k xs q) (value_at k all)) whole =
    begun_query k g.met.M.Kind.Kind.placed eq e q c.known_ends.ensures xs c.known.ensures (options_equiv e) c.new_with_step_fns-all.result all c.new_with_step_fns-all.ensures c.in_ok-insert_shared.ensures in
    let items = c.append_overlapping.new.out.items in
    rw c.into_iter-rest.ensures.rest
    (clipped_by_clones k g.met.M.Kind.Kind.interval e q (overlapped k xs q) items (value_at k all) whole
    (appended_alone k eq (overlapped k xs q) c.new-found.result.items items c.new-found.ensures.items c.in_ok-append_overlapping.ensures.ok).0 begun)

pub insert_shared-requires-in-Some-clause-faithful_values : goal.insert_shared-requires-in-Some-clause-faithful_values
insert_shared-requires-in-Some-clause-faithful_values g c = λ x y h. grind (arith, common_steps, c.requires.faithful_values)

pub pairs-preserved : goal.pairs-preserved
pairs-preserved g c =
    let k = g.M.Kind.Kind.kind in
    let q = c.args.query.now in
    let whole = segments_of k (value_at k (g.M.Container.pairs c.args.container.now)) q in
    let a : g.row.M-Range.Denot × g.row.M-Value.Denot = (c.in-Some.range, c.in-Some.value) in
    let behind : List (g.row.M-Range.Denot × g.row.M-Value.Denot) = into_iter_items c.take_first.new.self in
    let taken : into_iter_items c.pairs.rest ≡ a ∷ behind = rw c.in-Some.is at c.take_first.ensures in
    let left = subst (λ (rest : List (g.row.M-Range.Denot × g.row.M-Value.Denot)). Alike k (option_eq g.M.Value.PartialEq.eq) (clipped k q rest (value_at k c.pairs.all)) whole) taken c.pairs.invariant in
    clipped_next k q (options_equiv g.met.M.Value.Eq.laws) whole (value_at k c.pairs.all) a behind c.insert_shared-in-Some.new.map left c.in_ok-insert_shared-2.ensures

pub returns : goal.returns
returns g c =
    let k = g.M.Kind.Kind.kind in
    let q = c.args.query.now in
    let none : into_iter_items c.pairs.rest ≡ [] = (rw c.in_default.is at c.take_first.ensures).0 in
    record {
      canonical = c.known-2.ensures;
      represents = subst (λ (rest : List (g.row.M-Range.Denot × g.row.M-Value.Denot)). Alike k (option_eq g.M.Value.PartialEq.eq) (clipped k q rest (value_at k c.pairs.all)) (segments_of k (value_at k (g.M.Container.pairs c.args.container.now)) q)) none c.pairs.invariant;
    }
