use Rattle.rangemap.proofs.Loops.{asks_for_gaps}
use Rattle.rangemap.proofs.NumberKinds.{placed_half_open}
use Rattle.rangemap.proofs.SetCallerLemmas.{set_gaps_collected}
use Rattle.examples.proofs.byte_cache.ByteCache.missing.Goals as goal

pub returns : goal.returns
returns c = search (set_gaps_collected placed_half_open, asks_for_gaps)
