use Rattle.std.proofs.Common.{IsTrue, length, nat_lt, subst, sym}
use Rattle.std.specs.Prelude.{◌↔◌}
use Rattle.rangemap_core.specs.Ranges.{IsStorable, overlapped, value_at}
use Rattle.rangemap.specs.DefinedIn.{IsDefinedIn}
use Rattle.rangemap.proofs.DefinedInLemmas.{defined_by_overlaps, none_meets_where_undefined, overlaps_some, undefined_where_none_meets}
use Rattle.rangemap_laws.proofs.overlaps.overlaps_exactly_where_covered.Goals as goal

pub returns : goal.returns
returns g c =
    let k = g.M.Kind.Kind.kind in
    let p = g.met.M.Kind.Kind.placed in
    let eq = g.M.Value.PartialEq.eq in
    let q = c.args.range.now in
    let list = g.M.Container.pairs c.args.map.now in
    let stored : IsStorable k q = record { start_is_key = c.known_ends.ensures.start_is_key; end_is_key = c.known_ends.ensures.end_is_key; non_empty = c.requires } in
    let defined : IsTrue (nat_lt 0 (length (overlapped k list q))) ↔ IsDefinedIn k (value_at k list) q = (defined_by_overlaps p eq q stored list c.known.ensures, overlaps_some p eq q stored list c.known.ensures) in
    record {
      answer = c.overlaps.ensures;
      some = subst (λ b. IsTrue b ↔ IsDefinedIn k (value_at k list) q) (sym c.overlaps.ensures) defined;
      none = (undefined_where_none_meets p eq q stored list c.known.ensures, none_meets_where_undefined p eq q stored list c.known.ensures);
    }
