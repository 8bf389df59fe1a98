use Rattle.std.proofs.Common.{◌≡◌, ◌-◌, arith}
use Rattle.rangemap_sorted.proofs.TurnLemmas.{turned_slice}
use Rattle.rangemap_sorted.proofs.splice.turn_right.Goals as goal

pub returns-then-count-eq2 : goal.returns-then-count-eq2
returns-then-count-eq2 g c =
    let h = c.with_slots.ensures in
    let is : c.args.count ≡ 2 = omega arith in
    rw is (turned_slice h.0 h.1 c.args.list.now c.with_slots.new.s h.2 h.4 (λ n. n - 2) (omega arith) h.3.1)
