use Rattle.rangemap_formats.proofs.TextLemmas.{map_text_known}
use Rattle.rangemap_laws.proofs.texts.texts_are_joined.Goals as goal

pub returns : goal.returns
returns g c key value list = map_text_known g.Q.Kind.kind g.R.KeyRange.dots g.R.Key.Debug.debug_output key g.V.Debug.debug_output value list
