use Rattle.rangemap_core.specs.Ranges.{IsCanonOfPoints, covers, unit_eq, with_unit}
use Rattle.rangemap_containers.specs.Histories.{Makes}
use Rattle.rangemap_containers.proofs.ReplayLemmas.{added_or_not}
use Rattle.rangemap.specs.Joined.{joining, made_by}
use Rattle.rangemap.specs.SetHistories.{SetStep}
use Rattle.rangemap.proofs.SetReplayLemmas.{joined_here, not_joined}
use Rattle.rangemap.proofs.range_set.calls.push_joined.Goals as goal

pub returns-clause-made : goal.returns-clause-made
returns-clause-made g c =
    let k = g.S.Kind.Kind.kind in
    let sets = c.args.sets.now.items in
    let join = c.args.join in
    let left = c.in-Some.first.now in
    let right = c.in-Some-get.second.now in
    let first = c.in-Some.ensures.lookup in
    let second = c.in-Some-get.ensures.lookup in
    added_or_not (λ set. IsCanonOfPoints k (made_by join (covers k left) (covers k right)) set)
    (Makes k (unit_eq k) (with_unit k) (SetStep {A = g.row.S-Alloc.Denot} k) sets (joining join c.args.left c.args.right))
    sets c.push_made.new.containers.items c.apply-made.result c.push_made.result
    (λ set. joined_here k sets g.row.S-Alloc.Denot c.args.left c.args.right left right set
    (rw c.deref.ensures.value at first.3.0) (rw c.deref.ensures.value at first.1) (rw c.deref-2.ensures.value at second.3.0) (rw c.deref-2.ensures.value at second.1) join)
    (not_joined k sets g.row.S-Alloc.Denot c.args.left c.args.right join)
    c.apply-made.ensures c.push_made.ensures.answer c.push_made.ensures.ok c.push_made.ensures.err
