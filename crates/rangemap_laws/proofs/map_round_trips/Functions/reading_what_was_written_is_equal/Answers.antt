use Rattle.std.specs.Fn.{FnReturnsAt}
use Rattle.rangemap_formats.proofs.RoundTripLemmas.{map_refused, map_round_trip}
use Rattle.rangemap_laws.proofs.map_round_trips.Functions.reading_what_was_written_is_equal.Goals as goal

pub returns-in-Ok-clause-equal : goal.returns-in-Ok-clause-equal
returns-in-Ok-clause-equal g c =
    map_round_trip g.S.Kind.Kind.kind g.met.S.Kind.Kind.placed g.S.Value.PartialEq.eq g.met.S.Value.Eq.laws
    (FnReturnsAt g.WK.Fn c.args.self.write_key) (FnReturnsAt g.WV.Fn c.args.self.write_value) (FnReturnsAt g.RK.Fn c.args.self.read_key) (FnReturnsAt g.RV.Fn c.args.self.read_value)
    c.requires.keys_read_back c.requires.values_read_back c.args.map.now c.in_ok-value.value c.args.form c.known.ensures c.in_ok-value.ensures.ok
    c.in-Ok.again c.in-Ok.ensures.ok

pub unreachable-requires : goal.unreachable-requires
unreachable-requires g c =
    c.in_default.not-OutOfMemory
    (map_refused g.S.Kind.Kind.kind g.met.S.Kind.Kind.placed g.S.Value.PartialEq.eq g.met.S.Value.Eq.laws
    (FnReturnsAt g.WK.Fn c.args.self.write_key) (FnReturnsAt g.WV.Fn c.args.self.write_value) (FnReturnsAt g.RK.Fn c.args.self.read_key) (FnReturnsAt g.RV.Fn c.args.self.read_value)
    c.requires.keys_read_back c.requires.values_read_back c.args.map.now c.in_ok-value.value c.args.form c.known.ensures c.in_ok-value.ensures.ok
    c.in-Err.error c.in-Err.ensures.err)
