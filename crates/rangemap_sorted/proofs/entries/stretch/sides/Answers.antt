use Rattle.std.specs.Option.{option_copied}
use Rattle.std.proofs.Common.{arith, ◌<◌, ◌-◌}
use Rattle.rangemap_core.specs.engine.Endpoints.{asked}
use Rattle.rangemap_core.proofs.PlaceLemmas.{S, places, to_spaced, storable_here}
use Rattle.rangemap_core.proofs.InsertSideLemmas.{left_empty, right_empty}
use Rattle.rangemap_sorted.proofs.SideLemmas.{left_from, piece_from, right_from}
use Rattle.rangemap_sorted.proofs.entries.stretch.sides.Goals as goal

pub returns-then-places-clause-left : goal.returns-then-places-clause-left
returns-then-places-clause-left g c =
    let p = g.met.Q.Kind.placed in
    let eq = g.V.PartialEq.eq in
    rw (c.none.ensures.piece, c.none.ensures.not_taken)
    (left_empty (S p eq) (places p eq) g.met.V.Eq.laws c.args.pairs.now (to_spaced p eq _ c.requires.canonical) (c.args.range.now, option_copied c.args.value) (p.non_empty _ c.requires.range) c.args.places.now.start c.args.places.now.end c.requires.stretch c.if-places.true)

pub returns-then-places-clause-right : goal.returns-then-places-clause-right
returns-then-places-clause-right g c =
    let p = g.met.Q.Kind.placed in
    let eq = g.V.PartialEq.eq in
    rw (c.none-then-places.ensures.piece, c.none-then-places.ensures.not_taken)
    (right_empty (S p eq) (places p eq) g.met.V.Eq.laws c.args.pairs.now (to_spaced p eq _ c.requires.canonical) (c.args.range.now, option_copied c.args.value) (p.non_empty _ c.requires.range) c.args.places.now.start c.args.places.now.end c.requires.stretch c.if-places.true)

pub side_between-requires-clause-from : goal.side_between-requires-clause-from
side_between-requires-clause-from g c =
    asked g.Q.Kind.kind _ (storable_here g.met.Q.Kind.placed g.V.PartialEq.eq c.args.pairs.now c.requires.canonical c.args.places.now.start c.index-pairs-places.result (omega (arith, c.requires.stretch.start_le_end, c.requires.stretch.in_bounds)) c.index-pairs-places.is)

pub side_between-requires-2-clause-to : goal.side_between-requires-2-clause-to
side_between-requires-2-clause-to g c =
    asked g.Q.Kind.kind _ (storable_here g.met.Q.Kind.placed g.V.PartialEq.eq c.args.pairs.now c.requires.canonical (c.args.places.now.end - 1) c.index-pairs-places-2.result (omega (arith, c.requires.stretch.start_le_end, c.requires.stretch.in_bounds)) c.index-pairs-places-2.is)

pub returns-clause-left : goal.returns-clause-left
returns-clause-left g c =
    let more : c.args.places.now.start < c.args.places.now.end = omega (arith, c.requires.stretch.start_le_end) in
    left_from g.met.Q.Kind.placed g.V.PartialEq.eq g.met.V.Eq.laws c.args.pairs.now c.requires.canonical c.args.range.now (option_copied c.args.value) c.requires.range c.args.places.now.start c.args.places.now.end c.requires.stretch more c.index-pairs-places.result c.in_ok-left.left.piece c.in_ok-left.left.is_taken c.index-pairs-places.is c.in_ok-left.ensures.side

pub returns-clause-left_piece : goal.returns-clause-left_piece
returns-clause-left_piece g c =
    let more : c.args.places.now.start < c.args.places.now.end = omega (arith, c.requires.stretch.start_le_end) in
    piece_from g.Q.Kind.kind g.Q.Kind.end_place g.V.PartialEq.eq c.args.places.now.start c.args.places.now.end more _ _ c.in_ok-left.ensures.side

pub returns-clause-right : goal.returns-clause-right
returns-clause-right g c =
    let more : c.args.places.now.start < c.args.places.now.end = omega (arith, c.requires.stretch.start_le_end) in
    right_from g.met.Q.Kind.placed g.V.PartialEq.eq g.met.V.Eq.laws c.args.pairs.now c.requires.canonical c.args.range.now (option_copied c.args.value) c.requires.range c.args.places.now.start c.args.places.now.end c.requires.stretch more c.index-pairs-places-2.result c.in_ok-right.right.piece c.in_ok-right.right.is_taken c.index-pairs-places-2.is c.in_ok-right.ensures.side

pub returns-clause-right_piece : goal.returns-clause-right_piece
returns-clause-right_piece g c =
    let more : c.args.places.now.start < c.args.places.now.end = omega (arith, c.requires.stretch.start_le_end) in
    piece_from g.Q.Kind.kind g.Q.Kind.end_place g.V.PartialEq.eq c.args.places.now.start c.args.places.now.end more _ _ c.in_ok-right.ensures.side
