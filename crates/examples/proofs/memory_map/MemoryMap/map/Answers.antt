use Rattle.std.proofs.lemmas.Result.{on_ok_weaker}
use Rattle.rangemap.proofs.NumberKinds.{half_open_unsigned}
use Rattle.rangemap.proofs.NumberLemmas.{inserted}
use Rattle.examples.proofs.MemoryLemmas.{same_region}
use Rattle.examples.proofs.memory_map.MemoryMap.map.Goals as goal

pub returns-clause-within : goal.returns-clause-within
returns-clause-within c = on_ok_weaker c.insert.result (λ ok at. (inserted half_open_unsigned same_region (record { start = c.args.start; end = c.args.end }) ok).within at tt) c.insert.ensures.ok
