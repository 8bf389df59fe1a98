use Rattle.std.proofs.lemmas.Result.{on_ok_weaker}
use Rattle.rangemap_core.specs.Ranges.{IsStorable, value_at}
use Rattle.rangemap_core.proofs.SegmentLemmas.{shares_none, shares_some}
use Rattle.rangemap.proofs.segments.insert_shared.Goals as goal

pub insert-requires-clause-non_empty : goal.insert-requires-clause-non_empty
insert-requires-clause-non_empty g c =
    let stored : IsStorable g.S.Kind.Kind.kind c.in-Some.shared = (rw c.in-Some.is at c.in_ok-shared.ensures.found).0 in
    g.met.S.Kind.Kind.has_key_of c.in-Some.shared stored.non_empty

pub insert-requires-clause-not_exhausted : goal.insert-requires-clause-not_exhausted
insert-requires-clause-not_exhausted g c =
    let stored : IsStorable g.S.Kind.Kind.kind c.in-Some.shared = (rw c.in-Some.is at c.in_ok-shared.ensures.found).0 in
    g.met.S.Kind.Kind.is_fresh_of c.in-Some.shared stored.non_empty

pub returns-in_default : goal.returns-in_default
returns-in_default g c =
    shares_none g.S.Kind.Kind.kind g.met.S.Value.Eq.laws c.args.query.now c.args.range.now c.args.value c.args.map.now (rw c.in_default.is at c.in_ok-shared.ensures.none) c.known.ensures

pub returns : goal.returns
returns g c =
    let k = g.S.Kind.Kind.kind in
    on_ok_weaker c.insert.result
    (shares_some k g.met.S.Value.Eq.laws c.args.query.now c.args.range.now c.args.value (value_at k c.args.map.now) c.in-Some.shared c.insert.new.self (rw c.in-Some.is at c.in_ok-shared.ensures.found).1)
    c.insert.ensures.ok
