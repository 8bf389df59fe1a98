use Rattle.std.proofs.Common.{◌^◌}
use Rattle.std.proofs.lemmas.Result.{on_ok_weaker}
use Rattle.rangemap.proofs.SetChangeLemmas.{taken_closed}
use Rattle.examples.proofs.calling.queries.release.Goals as goal

pub returns : goal.returns
returns c = on_ok_weaker c.remove.result (λ ok. taken_closed (2 ^ 32) _ _ c.new.result (c.new.ensures.start, c.new.ensures.end) ok) c.remove.ensures.ok
