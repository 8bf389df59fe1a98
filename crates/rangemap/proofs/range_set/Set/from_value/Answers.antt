use Rattle.std.proofs.Common.{subst, sym}
use Rattle.std.proofs.lemmas.Result.{err_from_is_err_and}
use Rattle.std.specs.Fn.{FnReturnsAt}
use Rattle.rangemap_formats.specs.Json.{IsReading, set_reader}
use Rattle.rangemap_core.specs.Ranges.{unit_eq}
use Rattle.rangemap_maps.proofs.NoEntryLemmas.{never_refused}
use Rattle.rangemap_unions.proofs.UnitValueLemmas.{with_ranges}
use Rattle.rangemap.proofs.range_set.Set.from_value.Goals as goal

pub returns-clause-ok : goal.returns-clause-ok
returns-clause-ok g c =
    let k = g.S.Kind.Kind.kind in
    subst (IsReading k (set_reader (FnReturnsAt g.RK.Fn c.args.read_key)) (unit_eq k) c.args.form c.args.value.now) (sym (with_ranges k (g.S.Store.pairs c.in_ok-stored.stored))) c.in_ok-stored.ensures.ok

pub returns-in_err-stored-clause-exact : goal.returns-in_err-stored-clause-exact
returns-in_err-stored-clause-exact g c =
    let left = err_from_is_err_and c.from_residual.result c.from_residual.ensures.1 in
    rw (left.1, left.2) c.in_err-stored.ensures.exact

pub returns-in_err-stored-clause-of_nothing : goal.returns-in_err-stored-clause-of_nothing
returns-in_err-stored-clause-of_nothing g c = λ none.
    let k = g.S.Kind.Kind.kind in
    absurd (never_refused k (set_reader (FnReturnsAt g.RK.Fn c.args.read_key)) (unit_eq k) c.args.form c.args.value.now none _ c.in_err-stored.ensures.err)
