use Rattle.std.proofs.Common.{arith, sym, true≢false}
use Rattle.std.specs.Prelude.{nat_eq}
use Rattle.rangemap.proofs.NumberKinds.{half_open_unsigned}
use Rattle.rangemap.proofs.NumberLemmas.{inserted, same_number}
use Rattle.examples.proofs.InterruptLemmas.{at_most_lines}
use Rattle.examples.proofs.interrupts.Interrupts.route.Goals as goal

pub unreachable-requires : goal.unreachable-requires
unreachable-requires c =
    let table = c.args.self.now in
    true≢false (sym (c.in_default.ensures.succeeds (λ key. tt) (λ value. tt) (omega (arith, table.room, at_most_lines nat_eq 16 table.handlers.0 c.known.ensures table.within))))

pub returns-clause-behind : goal.returns-clause-behind
returns-clause-behind c = λ line past. (inserted half_open_unsigned same_number (record { start = c.args.first; end = c.args.end }) c.in-Ok.ensures.ok).behind line tt past
