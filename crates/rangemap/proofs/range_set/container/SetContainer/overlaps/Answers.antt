use Rattle.std.proofs.Common.{◌∙◌, ap, nat_lt, sym}
use Rattle.rangemap_unions.proofs.SetLemmas.{met_count}
use Rattle.rangemap.proofs.range_set.container.SetContainer.overlaps.Goals as goal

pub returns : goal.returns
returns g c = c.overlaps.ensures.any ∙ ap (λ n. nat_lt 0 n) (sym (met_count g.S.Kind.Kind.kind c.args.self.now c.args.range.now))
