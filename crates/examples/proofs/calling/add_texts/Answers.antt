use Rattle.std.specs.String.{string_bytes}
use Rattle.rangemap.proofs.TextKeys.{clones_tie}
use Rattle.examples.proofs.calling.add_texts.Goals as goal

pub insert-requires-clause-faithful_keys : goal.insert-requires-clause-faithful_keys
insert-requires-clause-faithful_keys c = λ x y same. clones_tie (string_bytes x) (string_bytes y) same
