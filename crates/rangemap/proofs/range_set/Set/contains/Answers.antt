use Rattle.std.proofs.Common.{◌∙◌}
use Rattle.rangemap.proofs.MapLemmas.{contained, found_shown}
use Rattle.rangemap.proofs.range_set.Set.contains.Goals as goal

pub returns : goal.returns
returns g c = contained g.S.Kind.Kind.kind _ _ c.self.view_is c.args.value.now _ (c.is_some.ensures ∙ found_shown c.covering.result _ c.covering.ensures)
