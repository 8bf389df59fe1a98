-- A line whose name is no text, and one of one or two words.
use Rattle.std.proofs.Common.{rules, ◌≡◌, [], ◌∷◌}
use Rattle.rangerun_library.specs.Words.{words_of}
use Rattle.rangerun_library.proofs.Reading.{no_text}
use Rattle.rangerun_library.proofs.command.Command.parse.Goals as goal

pub returns-in_default : goal.returns-in_default
returns-in_default g c = no_text _ _ _ c.divide.ensures c.args.has_value c.in_default.ensures.cases.0

pub returns-in-None : goal.returns-in-None
returns-in-None g c =
    let are : words_of c.args.line.now ≡ c.in-Ok.name.now ∷ [] = search rules in
    rw are (c.parse_bare.ensures c.args.has_value)

pub returns-in-One : goal.returns-in-One
returns-in-One g c =
    let are : words_of c.args.line.now ≡ c.in-Ok.name.now ∷ c.in-One.key.now ∷ [] = search rules in
    rw are (c.parse_get.ensures c.args.has_value)
