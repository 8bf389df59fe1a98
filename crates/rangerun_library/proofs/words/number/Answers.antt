-- The number read is that of the digits.
use Rattle.std.proofs.Common.{rules}
use Rattle.rangerun_library.proofs.Ascii.{number_read}
use Rattle.rangerun_library.proofs.words.number.Goals as goal

pub returns-in-Ok-clause-value : goal.returns-in-Ok-clause-value
returns-in-Ok-clause-value c =
    number_read c.args.word.now c.parse.result c.map_err.result _ (rw c.in-Ok.ensures.cases.0 at c.parse.ensures.value.0) (search rules) c.map_err.ensures.cases
