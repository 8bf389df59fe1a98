use Rattle.std.proofs.Common.{◌∙◌, sym, ap, is_lt, is_le}
use Rattle.std.specs.Option.{option_copied}
use Rattle.std.specs.declared.ops.Range.{Range}
use Rattle.rangemap_core.specs.engine.EndpointKinds.{half_open_placed, lt_is}
use Rattle.rangemap_core.specs.engine.Shape.{IsSpaced}
use Rattle.rangemap_core.proofs.PlaceLemmas.{to_spaced}
use Rattle.rangemap_core.proofs.PlaceOrderLemmas.{lt_le, not_lt_ge}
use Rattle.rangemap_tree.specs.Sides.{shape}
use Rattle.rangemap_tree.proofs.StartLemmas.{turned}
use Rattle.rangemap_tree.proofs.SplitLemmas.{gt_of_le}
use Rattle.rangemap_tree.proofs.SideLemmas.{of_lent, left_none, left_apart, left_joined, left_parted}
use Rattle.rangemap_tree.proofs.sides.left_side.Goals as goal
use Rattle.rangemap_tree.proofs.sides.left_side.Goals.{Start}

spaced : (g : _) (c : Start g) → IsSpaced (shape g.K.Ord.cmp g.V.PartialEq.eq) c.args.pairs.now
spaced g c = to_spaced (half_open_placed g.met.K.Ord.total) g.V.PartialEq.eq c.args.pairs.now c.requires.canonical

pub last_before-requires-clause-near : goal.last_before-requires-clause-near
last_before-requires-clause-near g c = (option_copied c.args.value, c.requires.near.0, c.requires.near.1)

pub returns-in_default : goal.returns-in_default
returns-in_default g c = rw (c.none.ensures.outer_end, c.none.ensures.rest) (left_none g.met.K.Ord.total g.V.PartialEq.eq g.met.V.Eq.laws c.args.pairs.now (spaced g (goal.at.returns-in_default g c).Start) c.args.range.now (option_copied c.args.value) c.in_default.ensures.1.0)

pub returns-then-is_lt : goal.returns-then-is_lt
returns-then-is_lt g c =
    let o = g.met.K.Ord.total in
    let r = c.args.range.now in
    let a : Range g.row.K.Denot × g.row.V.Denot = (c.in-Some.first.now, c.in-Some.first_value.now) in
    let below = lt_is (g.K.Ord.cmp a.0.end r.start) (ap is_lt (sym c.cmp-reach.ensures) ∙ sym c.is_lt.ensures ∙ c.if-is_lt.true) in
    rw (c.none-then-is_lt.ensures.outer_end, c.none-then-is_lt.ensures.rest) (left_apart o g.V.PartialEq.eq g.met.V.Eq.laws c.args.pairs.now (spaced g (goal.at.returns-then-is_lt g c).Start) r (option_copied c.args.value) c.in-Some.ensures.0 a c.in-Some.ensures.1 (lt_le o a.0.end r.start below) (λ touch. let never = sym below ∙ touch in cc))

pub returns-then-eq : goal.returns-then-eq
returns-then-eq g c =
    let o = g.met.K.Ord.total in
    let r = c.args.range.now in
    let a : Range g.row.K.Denot × g.row.V.Denot = (c.in-Some.first.now, c.in-Some.first_value.now) in
    left_joined o g.V.PartialEq.eq g.met.V.Eq.laws c.args.pairs.now (spaced g (goal.at.returns-then-eq g c).Start) r (option_copied c.args.value) c.in-Some.ensures.0 a c.in-Some.ensures.1 c.in_ok-taken.taken (turned o _ _ (c.requires.faithful_keys _ _ c.in_ok-taken.ensures.cases)) (not_lt_ge o a.0.end r.start (ap is_lt (sym c.cmp-reach.ensures) ∙ sym c.is_lt.ensures ∙ c.if-is_lt.false)) (of_lent g.V.PartialEq.eq c.in-Some.first_value c.args.value ∙ sym c.eq.ensures ∙ c.if-eq.true)

pub returns-then-is_le : goal.returns-then-is_le
returns-then-is_le g c =
    let o = g.met.K.Ord.total in
    let r = c.args.range.now in
    let a : Range g.row.K.Denot × g.row.V.Denot = (c.in-Some.first.now, c.in-Some.first_value.now) in
    rw (c.none-then-is_le.ensures.outer_end, c.none-then-is_le.ensures.rest) (left_apart o g.V.PartialEq.eq g.met.V.Eq.laws c.args.pairs.now (spaced g (goal.at.returns-then-is_le g c).Start) r (option_copied c.args.value) c.in-Some.ensures.0 a c.in-Some.ensures.1 (gt_of_le (g.K.Ord.cmp a.0.end r.start) (ap is_le (sym c.cmp-reach.ensures) ∙ sym c.is_le.ensures ∙ c.if-is_le.true)) (λ touch. of_lent g.V.PartialEq.eq c.in-Some.first_value c.args.value ∙ sym c.eq.ensures ∙ c.if-eq.false))

pub returns : goal.returns
returns g c =
    let o = g.met.K.Ord.total in
    let r = c.args.range.now in
    let a : Range g.row.K.Denot × g.row.V.Denot = (c.in-Some.first.now, c.in-Some.first_value.now) in
    left_parted o g.V.PartialEq.eq g.met.V.Eq.laws c.args.pairs.now (spaced g (goal.at.returns g c).Start) r (option_copied c.args.value) c.in-Some.ensures.0 a c.in-Some.ensures.1 (record { start = c.in_ok-start.start; end = c.in_ok-end.end }) (turned o _ _ (c.requires.faithful_keys _ _ c.in_ok-start.ensures.cases)) (turned o _ _ (c.requires.faithful_keys _ _ c.in_ok-end.ensures.cases)) (not_lt_ge o a.0.end r.start (ap is_lt (sym c.cmp-reach.ensures) ∙ sym c.is_lt.ensures ∙ c.if-is_lt.false)) (of_lent g.V.PartialEq.eq c.in-Some.first_value c.args.value ∙ sym c.eq.ensures ∙ c.if-eq.false)
