use Rattle.std.proofs.Common.{◌≡◌, ◌≤◌, ℕ, true}
use Rattle.std.specs.Ordering.{nat_cmp}
use Rattle.rangemap.specs.Ranges.{covers, half_open}
use Rattle.rangemap.proofs.SetNumberLemmas.{taken_between}
use Rattle.examples.proofs.ChangeLemmas.{after_either}
use Rattle.examples.proofs.WindowLemmas.{waiting_behind}
use Rattle.examples.proofs.window.Window.deliver.Goals as goal

pub invariant_of-self : goal.invariant_of-self
invariant_of-self c =
    let next = c.args.self.now.next in
    record {
      none_delivered = after_either (λ waiting. (number : ℕ) → covers (half_open nat_cmp) waiting number ≡ true → next ≤ number) c.args.self.now.waiting c.remove.new.self c.remove.result
          (λ ok number there. (waiting_behind next c.args.to number _ _ (taken_between _ _ _ ok number) (c.args.self.now.none_delivered number) there).0)
          c.args.self.now.none_delivered c.remove.ensures.ok c.remove.ensures.err;
    }

pub returns-clause-dropped : goal.returns-clause-dropped
returns-clause-dropped c = taken_between _ _ _ c.in_ok-remove.ensures.ok
