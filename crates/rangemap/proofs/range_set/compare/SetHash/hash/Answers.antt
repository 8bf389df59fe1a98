use Rattle.std.proofs.Common.{ap, fold, ◌∙◌}
use Rattle.rangemap.proofs.MapLemmas.{fed}
use Rattle.rangemap.proofs.range_set.compare.SetHash.hash.Goals as goal

pub returns : goal.returns
returns g c = c.feed.ensures ∙ ap (fold g.H.Hasher.write c.args.state.now) (fed g.S.Kind.Kind.kind _ _ c.self.view_is g.S.Range.Key.Hash.hash_input)
