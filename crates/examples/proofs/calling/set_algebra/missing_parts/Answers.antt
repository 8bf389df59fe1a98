use Rattle.rangemap.proofs.LoopLemmas.{exact_half_open, without_collected}
use Rattle.rangemap.proofs.Loops.{asks_again}
use Rattle.examples.proofs.calling.set_algebra.missing_parts.Goals as goal

pub returns : goal.returns
returns c = search (without_collected exact_half_open, asks_again)
