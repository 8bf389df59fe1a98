use Rattle.std.proofs.Common.{refl, rules}
use Rattle.serde_json.specs.declared.value.Value.{the_lemmas}
use Rattle.rangemap_formats.proofs.json.shapes.MapWriterWritesParts.entry.Goals as goal

pub returns-in_ok-vec-in-Ok-clause-ok : goal.returns-in_ok-vec-in-Ok-clause-ok
returns-in_ok-vec-in-Ok-clause-ok g c start end is = (c.in-Ok.part, record { shown = c.args.value; shows = refl; says = record { met = c.in-Ok.ensures } }, (c.args.range, search (rules, the_lemmas), is))
