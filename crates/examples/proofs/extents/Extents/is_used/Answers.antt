use Rattle.std.proofs.Common.{arith, refl, ◌^◌}
use Rattle.std.specs.Prelude.{nat_eq}
use Rattle.rangemap.proofs.Loops.{LendsPairs, lends_again}
use Rattle.rangemap.proofs.NumberKinds.{placed_below}
use Rattle.rangemap.proofs.PairLoopLemmas.{item_is_stored, value_from_items}
use Rattle.examples.specs.Extents.{blocks}
use Rattle.examples.proofs.ExtentLemmas.{forward, outside, unused_by, used_by}
use Rattle.examples.proofs.extents.Extents.is_used.Goals as goal

pub lies_on-requires-clause-forward : goal.lies_on-requires-clause-forward
lies_on-requires-clause-forward c =
    let lends : LendsPairs c.args.self.now.shifts c.loop-extent.yielded c.next.result = search lends_again in
    let stored = item_is_stored (placed_below (2 ^ 32)) nat_eq c.args.self.now.shifts c.iter-extent-items.ensures.canonical lends c.in-Some.is in
    omega (arith, c.start.ensures, c.end.ensures, forward c.args.self.now.shifts (c.in-Some.extent.now, c.in-Some.shift.now) stored)

pub returns-then-lies_on-clause-used : goal.returns-then-lies_on-clause-used
returns-then-lies_on-clause-used c = λ found.
    let lends : LendsPairs c.args.self.now.shifts c.loop-extent.yielded c.next.result = search lends_again in
    let stored = item_is_stored (placed_below (2 ^ 32)) nat_eq c.args.self.now.shifts c.iter-extent-items.ensures.canonical lends c.in-Some.is in
    used_by c.args.self.now.shifts c.args.first c.args.last (c.in-Some.extent.now, c.in-Some.shift.now) _ _ c.start.ensures c.end.ensures stored (c.if-lies_on.ensures.yes refl)

pub returns-clause-free : goal.returns-clause-free
returns-clause-free c = λ none.
    let each = value_from_items blocks c.args.self.now.shifts (outside c.args.first c.args.last) (search lends_again) c.loop-extent.invariant c.in-None.is in
    unused_by c.args.self.now.shifts c.args.first c.args.last each
