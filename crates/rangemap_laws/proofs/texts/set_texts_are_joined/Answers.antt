use Rattle.rangemap_formats.proofs.TextLemmas.{set_text_known}
use Rattle.rangemap_laws.proofs.texts.set_texts_are_joined.Goals as goal

pub returns : goal.returns
returns g c key list = set_text_known g.Q.Kind.kind g.R.KeyRange.dots g.R.Key.Debug.debug_output key list
