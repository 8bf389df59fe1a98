use Rattle.std.proofs.lemmas.Result.{err_from_is_err_and}
use Rattle.std.specs.Fn.{FnReturnsAt}
use Rattle.rangemap_formats.specs.Json.{map_reader}
use Rattle.rangemap_maps.proofs.NoEntryLemmas.{never_refused}
use Rattle.rangemap_maps.proofs.range_map.Map.from_value.Goals as goal

pub returns-in_err-stored-clause-exact : goal.returns-in_err-stored-clause-exact
returns-in_err-stored-clause-exact g c =
    let left = err_from_is_err_and c.from_residual.result c.from_residual.ensures.1 in
    rw (left.1, left.2) c.in_err-stored.ensures.exact

pub returns-in_err-stored-clause-of_nothing : goal.returns-in_err-stored-clause-of_nothing
returns-in_err-stored-clause-of_nothing g c = λ none.
    let reader = map_reader (FnReturnsAt g.RK.Fn c.args.read_key) (FnReturnsAt g.RV.Fn c.args.read_value) in
    absurd (never_refused g.S.Kind.Kind.kind reader g.S.Value.PartialEq.eq c.args.form c.args.value.now none _ c.in_err-stored.ensures.err)
