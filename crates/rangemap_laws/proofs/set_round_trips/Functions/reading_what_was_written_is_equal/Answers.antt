use Rattle.std.proofs.Common.{sym, ◌∙◌}
use Rattle.std.specs.Fn.{FnReturnsAt}
use Rattle.rangemap_core.specs.Ranges.{with_unit}
use Rattle.rangemap_formats.proofs.RoundTripLemmas.{set_refused, set_round_trip}
use Rattle.rangemap.proofs.SetRoundTripLemmas.{as_pairs, unit_equiv}
use Rattle.rangemap_laws.proofs.set_round_trips.Functions.reading_what_was_written_is_equal.Goals as goal

pub returns-in-Ok-clause-equal : goal.returns-in-Ok-clause-equal
returns-in-Ok-clause-equal g c =
    let k = g.S.Kind.Kind.kind in
    let list = c.args.set.now in
    let again = c.in-Ok.again in
    sym (as_pairs k list again)
    ∙ set_round_trip k g.met.S.Kind.Kind.placed (unit_equiv k) (FnReturnsAt g.WK.Fn c.args.self.write_key) (FnReturnsAt g.RK.Fn c.args.self.read_key) c.requires.keys_read_back
    (with_unit k list) c.in_ok-value.value c.args.form c.known.ensures c.in_ok-value.ensures.ok (with_unit k again) c.in-Ok.ensures.ok

pub unreachable-requires : goal.unreachable-requires
unreachable-requires g c =
    let k = g.S.Kind.Kind.kind in
    c.in_default.not-OutOfMemory
    (set_refused k g.met.S.Kind.Kind.placed (unit_equiv k) (FnReturnsAt g.WK.Fn c.args.self.write_key) (FnReturnsAt g.RK.Fn c.args.self.read_key) c.requires.keys_read_back
    (with_unit k c.args.set.now) c.in_ok-value.value c.args.form c.known.ensures c.in_ok-value.ensures.ok c.in-Err.error c.in-Err.ensures.err)
