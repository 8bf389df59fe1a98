use Rattle.rangemap.proofs.LoopLemmas.{common_collected, exact_half_open}
use Rattle.rangemap.proofs.Loops.{asks_again}
use Rattle.examples.proofs.calling.intersection_of.Goals as goal

pub returns : goal.returns
returns c = search (common_collected exact_half_open, asks_again)
