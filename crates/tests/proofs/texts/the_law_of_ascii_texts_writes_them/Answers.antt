use Rattle.std.proofs.Common.{rules}
use Rattle.tests.proofs.AsciiTexts.{ascii_alone}
use Rattle.tests.proofs.texts.the_law_of_ascii_texts_writes_them.Goals as goal

pub ascii_text-requires : goal.ascii_text-requires
ascii_text-requires g c = record { ascii = ascii_alone c.in_ok-texts.texts c.expect.result.0.now c.expect.result.1.now (search rules) (search rules) (search rules) }
