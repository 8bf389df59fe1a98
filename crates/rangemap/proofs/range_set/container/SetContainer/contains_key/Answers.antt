use Rattle.std.proofs.Common.{◌∙◌, ap, sym}
use Rattle.rangemap_core.specs.Ranges.{covers, with_unit}
use Rattle.rangemap_unions.proofs.UnitValueLemmas.{covering_covers, ranges_with}
use Rattle.rangemap.proofs.range_set.container.SetContainer.contains_key.Goals as goal

pub returns : goal.returns
returns g c =
    let k = g.S.Kind.Kind.kind in
    c.contains.ensures ∙ sym (covering_covers k (with_unit k c.args.self.now) c.args.key.now ∙ ap (λ ranges. covers k ranges c.args.key.now) (ranges_with k c.args.self.now))
