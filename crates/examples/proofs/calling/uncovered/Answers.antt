use Rattle.rangemap.proofs.GapLoopLemmas.{gaps_collected}
use Rattle.rangemap.proofs.Loops.{asks_for_gaps}
use Rattle.rangemap.proofs.NumberKinds.{placed_half_open}
use Rattle.examples.proofs.calling.uncovered.Goals as goal

pub returns : goal.returns
returns c = search (gaps_collected placed_half_open c.args.shifts.now, asks_for_gaps)
