use Rattle.std.proofs.Common.{rules}
use Rattle.rangemap.proofs.MapLemmas.{canonical, got}
use Rattle.rangemap.proofs.range_set.Set.get.Goals as goal

pub returns-clause-found : goal.returns-clause-found
returns-clause-found g c = got g.S.Kind.Kind.kind _ _ c.self.view_is c.args.value.now _ c.in_ok-range.ensures

pub returns-in_err-range-clause-found : goal.returns-in_err-range-clause-found
returns-in_err-range-clause-found g c =
    let there = got g.S.Kind.Kind.kind _ _ c.self.view_is c.args.value.now _ c.in_err-range.ensures in
    search (rules, there)

pub returns-clause-canonical : goal.returns-clause-canonical
returns-clause-canonical g c = canonical g.S.Kind.Kind.kind _ _ c.self.view_is c.known.ensures

pub returns-in_err-range-clause-canonical : goal.returns-in_err-range-clause-canonical
returns-in_err-range-clause-canonical g c = canonical g.S.Kind.Kind.kind _ _ c.self.view_is c.known.ensures
