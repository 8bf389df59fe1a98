use Rattle.std.proofs.Common.{◌≡◌, ◌∷◌, ◌++◌, [], ◌∙◌, sym, ap, is_le}
use Rattle.std.specs.Map.Iter.{deref_pair}
use Rattle.std.specs.Option.{option_copied}
use Rattle.std.specs.declared.ops.Range.{Range}
use Rattle.rangemap_core.specs.engine.EndpointKinds.{half_open_placed}
use Rattle.rangemap_core.specs.engine.Shape.{IsSpaced}
use Rattle.rangemap_core.proofs.PlaceLemmas.{to_spaced}
use Rattle.rangemap_tree.specs.Sides.{shape}
use Rattle.rangemap_tree.specs.Starts.{near_end}
use Rattle.rangemap_tree.proofs.StartLemmas.{turned}
use Rattle.rangemap_tree.proofs.NearLemmas.{taken_none, taken_some}
use Rattle.rangemap_tree.proofs.SplitLemmas.{gt_of_le, less_if_above}
use Rattle.rangemap_tree.proofs.SideLemmas.{of_lent, right_none, right_within, right_touch, right_joined, right_parted}
use Rattle.rangemap_tree.proofs.sides.right_side.Goals as goal
use Rattle.rangemap_tree.proofs.sides.right_side.Goals.{Start, In-Some}

spaced : (g : _) (c : Start g) → IsSpaced (shape g.K.Ord.cmp g.V.PartialEq.eq) c.args.pairs.now
spaced g c = to_spaced (half_open_placed g.met.K.Ord.total) g.V.PartialEq.eq c.args.pairs.now c.requires.canonical

-- the last near the end
near : (g : _) (c : In-Some g) → near_end g.K.Ord.cmp (option_copied c.args.value) c.args.range.now.end c.args.pairs.now ≡ c.requires.near.0 ++ (c.in-Some.last.now, c.in-Some.last_value.now) ∷ []
near g c = taken_some deref_pair (near_end g.K.Ord.cmp (option_copied c.args.value) c.args.range.now.end c.args.pairs.now) c.args.near c.requires.near (c.in-Some.last, c.in-Some.last_value) c.in-Some.is

pub returns-in_default : goal.returns-in_default
returns-in_default g c = rw (c.none.ensures.outer_end, c.none.ensures.rest) (right_none g.met.K.Ord.total g.V.PartialEq.eq g.met.V.Eq.laws c.args.pairs.now (spaced g (goal.at.returns-in_default g c).Start) c.args.range.now (option_copied c.args.value) (taken_none deref_pair _ c.args.near c.requires.near c.in_default.is))

pub returns-then-is_le : goal.returns-then-is_le
returns-then-is_le g c =
    let b : Range g.row.K.Denot × g.row.V.Denot = (c.in-Some.last.now, c.in-Some.last_value.now) in
    rw (c.none-then-is_le.ensures.outer_end, c.none-then-is_le.ensures.rest) (right_within g.met.K.Ord.total g.V.PartialEq.eq g.met.V.Eq.laws c.args.pairs.now (spaced g (goal.at.returns-then-is_le g c).Start) c.args.range.now (option_copied c.args.value) c.requires.near.0 b (near g (goal.at.returns-then-is_le g c).In-Some) (gt_of_le (g.K.Ord.cmp b.0.end c.args.range.now.end) (ap is_le (sym c.cmp.ensures) ∙ sym c.is_le.ensures ∙ c.if-is_le.true)))

pub returns-then-eq : goal.returns-then-eq
returns-then-eq g c =
    let o = g.met.K.Ord.total in
    let r = c.args.range.now in
    let b : Range g.row.K.Denot × g.row.V.Denot = (c.in-Some.last.now, c.in-Some.last_value.now) in
    right_joined o g.V.PartialEq.eq g.met.V.Eq.laws c.args.pairs.now (spaced g (goal.at.returns-then-eq g c).Start) r (option_copied c.args.value) c.requires.near.0 b (near g (goal.at.returns-then-eq g c).In-Some) c.in_ok-taken.taken (turned o _ _ (c.requires.faithful_keys _ _ c.in_ok-taken.ensures.cases)) (less_if_above o b.0.end r.end (ap is_le (sym c.cmp.ensures) ∙ sym c.is_le.ensures ∙ c.if-is_le.false)) (of_lent g.V.PartialEq.eq c.in-Some.last_value c.args.value ∙ sym c.eq.ensures ∙ c.if-eq.true)

pub returns-then-is_le-2 : goal.returns-then-is_le-2
returns-then-is_le-2 g c =
    let b : Range g.row.K.Denot × g.row.V.Denot = (c.in-Some.last.now, c.in-Some.last_value.now) in
    rw (c.none-then-is_le-2.ensures.outer_end, c.none-then-is_le-2.ensures.rest) (right_touch g.met.K.Ord.total g.V.PartialEq.eq g.met.V.Eq.laws c.args.pairs.now (spaced g (goal.at.returns-then-is_le-2 g c).Start) c.args.range.now (option_copied c.args.value) c.requires.near.0 b (near g (goal.at.returns-then-is_le-2 g c).In-Some) (gt_of_le (g.K.Ord.cmp c.args.range.now.end b.0.start) (ap is_le (sym c.cmp-2.ensures) ∙ sym c.is_le-2.ensures ∙ c.if-is_le-2.true)) (of_lent g.V.PartialEq.eq c.in-Some.last_value c.args.value ∙ sym c.eq.ensures ∙ c.if-eq.false))

pub returns : goal.returns
returns g c =
    let o = g.met.K.Ord.total in
    let e = g.met.V.Eq.laws in
    let r = c.args.range.now in
    let b : Range g.row.K.Denot × g.row.V.Denot = (c.in-Some.last.now, c.in-Some.last_value.now) in
    let made = c.in_ok-piece.ensures in
    right_parted o g.V.PartialEq.eq e c.args.pairs.now (spaced g (goal.at.returns g c).Start) r (option_copied c.args.value) c.requires.near.0 b (near g (goal.at.returns g c).In-Some) c.in_ok-piece.piece (turned o _ _ (c.requires.faithful_keys _ _ made.0)) (turned o _ _ (c.requires.faithful_keys _ _ made.1)) (turned o _ _ (c.requires.faithful_keys _ _ made.2)) (e.symm _ _ ∙ c.requires.faithful_values _ _ made.3) (less_if_above o b.0.end r.end (ap is_le (sym c.cmp.ensures) ∙ sym c.is_le.ensures ∙ c.if-is_le.false)) (of_lent g.V.PartialEq.eq c.in-Some.last_value c.args.value ∙ sym c.eq.ensures ∙ c.if-eq.false) (less_if_above o r.end b.0.start (ap is_le (sym c.cmp-2.ensures) ∙ sym c.is_le-2.ensures ∙ c.if-is_le-2.false))
