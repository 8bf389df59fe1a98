use Rattle.std.proofs.Common.{rules}
use Rattle.rangemap_unions.proofs.SetLemmas.{pair_found}
use Rattle.rangemap.proofs.range_set.container.SetContainer.get_key_value.Goals as goal

pub returns : goal.returns
returns g c = pair_found g.S.Kind.Kind.kind c.args.self.now c.args.key.now _ c.in_ok-range.ensures.found

pub returns-in_err-range : goal.returns-in_err-range
returns-in_err-range g c =
    let there = pair_found g.S.Kind.Kind.kind c.args.self.now c.args.key.now _ c.in_err-range.ensures.found in
    search (rules, there)
