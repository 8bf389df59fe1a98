use Rattle.std.proofs.Common.{◌≡◌, [], ◌∙◌, sym, ap, refl, is_lt}
use Rattle.std.specs.Map.Iter.{deref_pair}
use Rattle.std.specs.declared.ops.Range.{Range}
use Rattle.rangemap_core.specs.engine.EndpointKinds.{half_open_placed, lt_is}
use Rattle.rangemap_core.specs.engine.Shape.{IsSpaced}
use Rattle.rangemap_core.proofs.PlaceLemmas.{to_spaced}
use Rattle.rangemap_tree.specs.Sides.{shape}
use Rattle.rangemap_tree.specs.Starts.{before, near_end}
use Rattle.rangemap_tree.proofs.NearLemmas.{last_before_none, last_before_start, taken_none, taken_some}
use Rattle.rangemap_tree.proofs.sides.last_before.Goals as goal
use Rattle.rangemap_tree.proofs.sides.last_before.Goals.{Start}

spaced : (g : _) (c : Start g) → IsSpaced (shape g.K.Ord.cmp g.V.PartialEq.eq) c.args.pairs.now
spaced g c = to_spaced (half_open_placed g.met.K.Ord.total) g.V.PartialEq.eq c.args.pairs.now c.requires.canonical

pub returns-in_err-last : goal.returns-in_err-last
returns-in_err-last g c =
    let r = c.args.range.now in
    let near = taken_none deref_pair (near_end g.K.Ord.cmp c.requires.near.0 r.end c.args.pairs.now) c.args.near (c.requires.near.1, c.requires.near.2) c.in_err-last.was in
    let none : before g.K.Ord.cmp r.start c.args.pairs.now ≡ [] = last_before_none g.met.K.Ord.total g.V.PartialEq.eq g.met.V.Eq.laws c.args.pairs.now (spaced g (goal.at.returns-in_err-last g c).Start) r c.requires.near.0 c.requires.range near in
    ([], rw c.from_residual.ensures (none, refl))

pub returns-then-is_lt : goal.returns-then-is_lt
returns-then-is_lt g c =
    let r = c.args.range.now in
    let a : Range g.row.K.Denot × g.row.V.Denot = (c.in_ok-last.last.now, c.in_ok-last.field-0-1.now) in
    let near = taken_some deref_pair (near_end g.K.Ord.cmp c.requires.near.0 r.end c.args.pairs.now) c.args.near (c.requires.near.1, c.requires.near.2) (c.in_ok-last.last, c.in_ok-last.field-0-1) c.in_ok-last.was in
    rw c.in_ok-last.was (c.requires.near.1, last_before_start g.met.K.Ord.total g.V.PartialEq.eq g.met.V.Eq.laws c.args.pairs.now (spaced g (goal.at.returns-then-is_lt g c).Start) r c.requires.near.0 c.requires.range c.requires.near.1 a near (lt_is (g.K.Ord.cmp a.0.start r.start) (ap is_lt (sym c.cmp.ensures) ∙ sym c.is_lt.ensures ∙ c.if-is_lt.true)))
