use Rattle.std.proofs.Common.{rules, ◌/◌}
use Rattle.std.proofs.lemmas.Result.{on_ok_weaker}
use Rattle.rangemap.proofs.ItemsLemmas.{values_updated}
use Rattle.rangemap.proofs.NumberKinds.{half_open_unsigned}
use Rattle.rangemap.proofs.NumberLemmas.{same_number}
use Rattle.examples.proofs.calling.halve.Goals as goal

pub returns-clause-within : goal.returns-clause-within
returns-clause-within c = on_ok_weaker c.update.result (λ ok at. (values_updated half_open_unsigned same_number (record { start = c.args.from; end = c.args.to }) (λ price. price / 2) ok (search rules)).within at tt) c.update.ensures.ok

pub returns-clause-before : goal.returns-clause-before
returns-clause-before c = on_ok_weaker c.update.result (λ ok at. (values_updated half_open_unsigned same_number (record { start = c.args.from; end = c.args.to }) (λ price. price / 2) ok (search rules)).before at tt) c.update.ensures.ok

pub returns-clause-behind : goal.returns-clause-behind
returns-clause-behind c = on_ok_weaker c.update.result (λ ok at. (values_updated half_open_unsigned same_number (record { start = c.args.from; end = c.args.to }) (λ price. price / 2) ok (search rules)).behind at tt) c.update.ensures.ok
