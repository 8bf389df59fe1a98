use Rattle.std.proofs.Common.{◌^◌}
use Rattle.std.proofs.lemmas.Result.{on_ok_weaker}
use Rattle.rangemap.proofs.SetNumberLemmas.{added_closed}
use Rattle.examples.proofs.block_list.BlockList.block.Goals as goal

pub returns-clause-blocked : goal.returns-clause-blocked
returns-clause-blocked c = on_ok_weaker c.insert.result (added_closed (2 ^ 32) _ _ _ (c.new.ensures.start, c.new.ensures.end)) c.insert.ensures.ok
