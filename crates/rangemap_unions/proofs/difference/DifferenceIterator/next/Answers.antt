use Rattle.std.proofs.Common.{rules}
use Rattle.rangemap_core.proofs.MadeRangeLemmas.{comes_nearer_its_end}
use Rattle.rangemap_unions.proofs.difference.DifferenceIterator.next.Goals as goal

pub returns-clause-goes : goal.returns-clause-goes
returns-clause-goes g c = comes_nearer_its_end g.Q.Kind.kind (λ s. s) c.requires c.args.self.now c.if-is_err.self c.transpose.result (search rules)
