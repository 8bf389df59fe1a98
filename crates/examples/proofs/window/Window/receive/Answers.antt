use Rattle.std.proofs.Common.{arith, ◌≡◌, ◌≤◌, ℕ, true}
use Rattle.std.specs.Ordering.{nat_cmp}
use Rattle.rangemap.specs.Ranges.{covers, half_open}
use Rattle.rangemap.proofs.SetNumberLemmas.{added_between}
use Rattle.examples.proofs.ChangeLemmas.{after_either}
use Rattle.examples.proofs.WindowLemmas.{noted, still_waiting}
use Rattle.examples.proofs.window.Window.receive.Goals as goal

pub invariant_of-self : goal.invariant_of-self
invariant_of-self c =
    let next = c.args.self.now.next in
    let from = c.max-from.result in
    record {
      none_delivered = after_either (λ waiting. (number : ℕ) → covers (half_open nat_cmp) waiting number ≡ true → next ≤ number) c.args.self.now.waiting c.insert.new.self c.insert.result
          (λ ok number. still_waiting next from c.args.to number _ _ (added_between _ _ _ ok number) (omega (arith, c.max-from.ensures)) (c.args.self.now.none_delivered number))
          c.args.self.now.none_delivered c.insert.ensures.ok c.insert.ensures.err;
    }

pub returns-in_ok-insert-clause-noted : goal.returns-in_ok-insert-clause-noted
returns-in_ok-insert-clause-noted c = λ number. noted c.args.self.now.next c.args.from c.args.to c.max-from.result number _ c.max-from.ensures (added_between _ _ _ c.in_ok-insert.ensures.ok number)
