use Rattle.std.proofs.Common.{◌∙◌}
use Rattle.rangemap.proofs.NumberKinds.{placed_half_open}
use Rattle.rangemap.proofs.SetCallerLemmas.{equal_sets}
use Rattle.examples.proofs.calling.are_equal.Goals as goal

pub returns : goal.returns
returns c = c.eq.ensures ∙ equal_sets placed_half_open c.args.left.now c.args.right.now c.known.ensures c.known-2.ensures (λ key is. c.requires key)
