use Rattle.std.proofs.Common.{arith, ◌∷◌, [], take}
use Rattle.std.proofs.lemmas.Grind.{common_steps}
use Rattle.std.proofs.lemmas.List.{take_all, take_more}
use Rattle.rangemap_core.specs.Ranges.{IsCanonOf, value_at}
use Rattle.rangemap_core.proofs.PlaceLemmas.{storable_here}
use Rattle.rangemap_core.proofs.EqualListLemmas.{copy_is_canon, same_pairs-last}
use Rattle.rangemap_core.proofs.ListLemmas.{Every-append}
use Rattle.rangemap_sorted.proofs.entries.clones.clone_pairs.Goals as goal

pub clone_pair-requires-clause-stored : goal.clone_pair-requires-clause-stored
clone_pair-requires-clause-stored g c =
    storable_here g.met.Q.Kind.placed g.V.PartialEq.eq _ c.loop-pair.invariant.canonical c.loop-pair.pair-index c.pair-item.result (omega arith) c.pair-item.is

pub loop-pair-preserved : goal.loop-pair-preserved
loop-pair-preserved g c =
    let k = g.Q.Kind.kind in
    let eq = g.V.PartialEq.eq in
    let xs = c.args.pairs.now in
    let n = c.loop-pair.pair-index in
    let before = c.loop-pair.invariant in
    let cloned = c.in_ok-clone_pair.ensures in
    record {
      canonical = before.canonical;
      storable = rw c.push_reserved.ensures.items (Every-append _ c.loop-pair.copy.items (c.in_ok-clone_pair.field-0 ∷ []) before.storable (cloned.storable, tt));
      same = rw (take_more xs n c.pair-item.result (omega arith), c.push_reserved.ensures.items, ← c.pair-item.is)
          (same_pairs-last k eq (take n xs) c.loop-pair.copy.items c.pair-item.result c.in_ok-clone_pair.field-0 before.same cloned.same);
      as_many = grind (arith, common_steps);
      room = grind (arith, common_steps);
    }

-- what was cloned, once all pairs were
copied : (g : _) (c : goal.After-loop-pair g) → IsCanonOf g.Q.Kind.kind g.V.PartialEq.eq (value_at g.Q.Kind.kind c.args.pairs.now) c.loop-pair.copy.items
copied g c =
    copy_is_canon g.Q.Kind.kind g.met.Q.Kind.placed g.V.PartialEq.eq g.met.V.Eq.laws c.args.pairs.now c.loop-pair.copy.items
    c.loop-pair.invariant.canonical c.loop-pair.invariant.storable (rw (take_all c.loop-pair.pair-index c.args.pairs.now (omega arith)) at c.loop-pair.invariant.same)

pub returns-clause-canon : goal.returns-clause-canon
returns-clause-canon g c = copied g c

pub returns-clause-same : goal.returns-clause-same
returns-clause-same g c = rw (take_all c.loop-pair.pair-index c.args.pairs.now (omega arith)) at c.loop-pair.invariant.same
