use Rattle.std.proofs.Common.{◌∙◌, sym}
use Rattle.rangemap.proofs.NumberKinds.{placed_half_open}
use Rattle.rangemap.proofs.SetChangeLemmas.{same_keys}
use Rattle.examples.proofs.calling.queries.have_same.Goals as goal

pub returns : goal.returns
returns c = λ same hour. same_keys placed_half_open c.args.left.now c.args.right.now c.known.ensures c.known-2.ensures (sym c.eq.ensures ∙ same) hour tt
