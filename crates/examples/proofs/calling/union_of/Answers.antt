use Rattle.rangemap.proofs.LoopLemmas.{either_collected, exact_half_open}
use Rattle.rangemap.proofs.Loops.{asks_again}
use Rattle.examples.proofs.calling.union_of.Goals as goal

pub returns : goal.returns
returns c = search (either_collected exact_half_open, asks_again)
