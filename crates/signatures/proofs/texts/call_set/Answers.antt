use Rattle.std.proofs.Common.{rules}
use Rattle.std.specs.String.{string_bytes}
use Rattle.rangemap.proofs.TextKeys.{clones_tie}
use Rattle.signatures.proofs.texts.call_set.Goals as goal

-- the size of the array, the three ranges, and that equal texts are clones
pub every-requires : goal.every-requires
every-requires c = (search rules, ((search rules, tt), (search rules, (search rules, λ x y same. clones_tie (string_bytes x) (string_bytes y) same))))
