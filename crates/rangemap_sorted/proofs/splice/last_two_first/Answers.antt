use Rattle.std.proofs.Common.{◌-◌, arith}
use Rattle.rangemap_sorted.proofs.TurnLemmas.{turned}
use Rattle.rangemap_sorted.proofs.splice.last_two_first.Goals as goal

pub returns : goal.returns
returns g c =
    let rest = c.len-rest.result - 2 in
    let len = c.len-rest.ensures in
    let some = c.requires.1 in
    turned rest 0 0 2 rest (c.take-first.ensures.places, c.take-second.ensures.places, c.move_within.ensures.places, c.put.ensures.places, c.put-2.ensures.places) (c.take-first.ensures.value, c.take-first.ensures.items, c.take-second.ensures.value, c.take-second.ensures.items) c.move_within.ensures.moved c.move_within.ensures.filled.0 (c.put.ensures.items, c.put.ensures.filled) (c.put-2.ensures.items, c.put-2.ensures.filled) (omega arith, omega arith) (c.args.row.len - 2) (omega arith)
    (λ k l. (λ is. omega arith, λ is. omega arith, λ p q. (omega arith, omega arith, omega arith))) (λ k more l. (λ is. omega arith, λ is. omega arith, λ p q. (omega arith, omega arith, omega arith)))
