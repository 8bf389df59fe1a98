use Rattle.std.proofs.Common.{arith, ◌-◌}
use Rattle.rangemap_sorted.proofs.SpliceLemmas.{written_by_set}
use Rattle.rangemap_sorted.proofs.splice.put.Goals as goal

pub returns-then-at-end-clause-items : goal.returns-then-at-end-clause-items
returns-then-at-end-clause-items g c = rw c.in-Some.is (written_by_set c.args.at (c.args.end - c.args.at) c.in-Some.value c.args.list.now.items (omega arith) (omega arith))
