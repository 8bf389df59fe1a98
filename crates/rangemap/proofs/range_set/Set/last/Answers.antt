use Rattle.std.proofs.Common.{rules}
use Rattle.rangemap.proofs.MapLemmas.{canonical, found_non_empty, shown_last}
use Rattle.rangemap.proofs.range_set.Set.last.Goals as goal

pub returns-clause-found : goal.returns-clause-found
returns-clause-found g c = shown_last g.S.Kind.Kind.kind _ _ c.self.view_is _ c.in_ok-range.ensures

pub returns-in_err-range-clause-found : goal.returns-in_err-range-clause-found
returns-in_err-range-clause-found g c =
    let there = shown_last g.S.Kind.Kind.kind _ _ c.self.view_is _ c.in_err-range.ensures in
    search (rules, there)

pub returns-clause-canonical : goal.returns-clause-canonical
returns-clause-canonical g c = canonical g.S.Kind.Kind.kind _ _ c.self.view_is c.known.ensures

pub returns-in_err-range-clause-canonical : goal.returns-in_err-range-clause-canonical
returns-in_err-range-clause-canonical g c = canonical g.S.Kind.Kind.kind _ _ c.self.view_is c.known.ensures

pub returns-clause-non_empty : goal.returns-clause-non_empty
returns-clause-non_empty g c = found_non_empty g.S.Kind.Kind.kind _ _ c.self.view_is c.known.ensures _ _ c.in_ok-range.ensures
