use Rattle.std.proofs.Common.{◌≡◌, List, [], ◌++◌, ◌∙◌, None, refl, sym, ap, subst, false, is_gt, is_le, is_lt, OnOk, Result}
use Rattle.std.proofs.lemmas.Result.{on_ok_weaker}
use Rattle.std.specs.Option.{unwrap_or}
use Rattle.std.specs.declared.ops.Range.{Range}
use Rattle.rangemap_core.specs.engine.EndpointKinds.{half_open_placed, lt_is}
use Rattle.rangemap_core.specs.engine.Stretch.{Every}
use Rattle.rangemap_core.specs.Ranges.{IsCanonOf, erase, half_open, overlapped, value_at}
use Rattle.rangemap_core.proofs.PlaceLemmas.{to_spaced}
use Rattle.rangemap_core.proofs.InsertSideLemmas.{on_ok}
use Rattle.rangemap_tree.specs.Starts.{AreStarts, before, from, recut, piece_list}
use Rattle.rangemap_tree.proofs.SplitLemmas.{gt_of_le, less_if_above}
use Rattle.rangemap_tree.proofs.NearLemmas.{none_from}
use Rattle.rangemap_tree.proofs.SideLemmas.{ends_by, last_overlaps}
use Rattle.rangemap_tree.proofs.ChangeLemmas.{IsChange, IsChanged, change, in_order, unmoved}
use Rattle.rangemap_tree.proofs.remove.remove.Goals as goal
use Rattle.rangemap_tree.proofs.remove.remove.Goals.{Start, Else-is_le, In_ok-right}

-- where those that start before the end end by the start, all stays
stays : (g : _) (c : Start g) → Every (λ (p : Range g.row.K.Denot × g.row.V.Denot). is_gt (g.K.Ord.cmp p.0.end c.args.range.now.start) ≡ false) (before g.K.Ord.cmp c.args.range.now.end c.args.pairs.now) → IsCanonOf (half_open g.K.Ord.cmp) g.V.PartialEq.eq (erase (half_open g.K.Ord.cmp) (value_at (half_open g.K.Ord.cmp) c.args.pairs.now) c.args.range.now) c.args.pairs.now
stays g c h = unmoved g.met.K.Ord.total g.V.PartialEq.eq g.met.V.Eq.laws c.args.pairs.now c.requires.canonical c.args.range.now c.requires.non_empty h

pub returns-in_default-clause-ok : goal.returns-in_default-clause-ok
returns-in_default-clause-ok g c = stays g (goal.at.returns-in_default-clause-ok g c).Start (subst (Every (λ (p : Range g.row.K.Denot × g.row.V.Denot). is_gt (g.K.Ord.cmp p.0.end c.args.range.now.start) ≡ false)) (sym c.in_default.ensures.1.0) tt)

pub returns-then-is_le-clause-ok : goal.returns-then-is_le-clause-ok
returns-then-is_le-clause-ok g c =
    let o = g.met.K.Ord.total in
    let ps = c.args.pairs.now in
    let r = c.args.range.now in
    let b : Range g.row.K.Denot × g.row.V.Denot = (c.in-Some.last.now, c.in-Some.field-0-1.now) in
    stays g (goal.at.returns-then-is_le-clause-ok g c).Start (ends_by o g.V.PartialEq.eq g.met.V.Eq.laws ps (to_spaced (half_open_placed o) g.V.PartialEq.eq ps c.requires.canonical) r None c.in-Some.ensures.0 b c.in-Some.ensures.1 r.start (gt_of_le (g.K.Ord.cmp b.0.end r.start) (ap is_le (sym c.cmp.ensures) ∙ sym c.is_le.ensures ∙ c.if-is_le.true)))

-- the last that starts before the end is met
met : (g : _) (c : Else-is_le g) → overlapped (half_open g.K.Ord.cmp) c.args.pairs.now c.args.range.now ≡ [] → ⊥
met g c =
    let o = g.met.K.Ord.total in
    let eq = g.V.PartialEq.eq in
    let ps = c.args.pairs.now in
    let r = c.args.range.now in
    let b : Range g.row.K.Denot × g.row.V.Denot = (c.in-Some.last.now, c.in-Some.field-0-1.now) in
    last_overlaps o eq g.met.V.Eq.laws ps (to_spaced (half_open_placed o) eq ps c.requires.canonical) r None c.in-Some.ensures.0 b c.in-Some.ensures.1 (less_if_above o b.0.end r.start (ap is_le (sym c.cmp.ensures) ∙ sym c.is_le.ensures ∙ c.if-is_le.false))

pub returns-in_err-left-clause-meets_nothing : goal.returns-in_err-left-clause-meets_nothing
returns-in_err-left-clause-meets_nothing g c = λ h. absurd (met g (goal.at.returns-in_err-left-clause-meets_nothing g c).Else-is_le h)

pub returns-in_err-starts-clause-meets_nothing : goal.returns-in_err-starts-clause-meets_nothing
returns-in_err-starts-clause-meets_nothing g c = λ h. absurd (met g (goal.at.returns-in_err-starts-clause-meets_nothing g c).Else-is_le h)

pub returns-in_err-right-clause-meets_nothing : goal.returns-in_err-right-clause-meets_nothing
returns-in_err-right-clause-meets_nothing g c = λ h. absurd (met g (goal.at.returns-in_err-right-clause-meets_nothing g c).Else-is_le h)

pub returns-then-is_lt-clause-meets_nothing : goal.returns-then-is_lt-clause-meets_nothing
returns-then-is_lt-clause-meets_nothing g c = λ h. absurd (met g (goal.at.returns-then-is_lt-clause-meets_nothing g c).Else-is_le h)

pub returns-clause-meets_nothing : goal.returns-clause-meets_nothing
returns-clause-meets_nothing g c = λ h. absurd (met g (goal.at.returns-clause-meets_nothing g c).Else-is_le h)

-- all that is said of what is left on either side, and of the list that is made
known : (g : _) (c : In_ok-right g) → IsChange g.K.Ord.cmp g.V.PartialEq.eq c.args.pairs.now c.args.range.now None c.in_ok-left.left.rest c.in_ok-right.right.rest c.args.range.now
known g c =
    let r = c.args.range.now in
    change g.met.K.Ord.total g.V.PartialEq.eq g.met.V.Eq.laws c.args.pairs.now c.requires.canonical r c.requires.non_empty None c.in_ok-left.left.outer_end c.in_ok-right.right.outer_end c.in_ok-left.left.rest c.in_ok-right.right.rest c.in_ok-left.ensures c.in_ok-right.ensures r (sym (ap (λ x. unwrap_or x r.start) (c.in_ok-left.ensures.of_none refl))) (sym (ap (λ x. unwrap_or x r.end) (c.in_ok-right.ensures.of_none refl)))

pub erase-requires : goal.erase-requires
erase-requires g c =
    let o = g.met.K.Ord.total in
    let cmp = g.K.Ord.cmp in
    let eq = g.V.PartialEq.eq in
    let e = g.met.V.Eq.laws in
    let ps = c.args.pairs.now in
    let r = c.args.range.now in
    let k = known g (goal.at.erase-requires g c).In_ok-right in
    let b : Range g.row.K.Denot × g.row.V.Denot = (c.in-Some.last.now, c.in-Some.field-0-1.now) in
    let split = in_order o eq e ps c.requires.canonical in
    record {
      non_empty = c.requires.non_empty;
      in_order = split r.start;
      cut = k.cut_there;
      piece = k.new_there;
      starts = subst (λ qs. AreStarts cmp qs []) (sym (none_from o eq e ps (to_spaced (half_open_placed o) eq ps c.requires.canonical) (before cmp r.end ps) (from cmp r.end ps) (split r.end) c.in-Some.ensures.0 b c.in-Some.ensures.1 r.start r.end k.behind (lt_is (cmp b.0.start r.start) (ap is_lt (sym c.cmp-2.ensures) ∙ sym c.is_lt.ensures ∙ c.if-is_lt.true)))) tt;
    }

pub erase-requires-2-clause-in_order : goal.erase-requires-2-clause-in_order
erase-requires-2-clause-in_order g c = in_order g.met.K.Ord.total g.V.PartialEq.eq g.met.V.Eq.laws c.args.pairs.now c.requires.canonical c.args.range.now.start

pub erase-requires-2-clause-cut : goal.erase-requires-2-clause-cut
erase-requires-2-clause-cut g c = (known g (goal.at.erase-requires-2-clause-cut g c).In_ok-right).cut_there

pub erase-requires-2-clause-piece : goal.erase-requires-2-clause-piece
erase-requires-2-clause-piece g c = (known g (goal.at.erase-requires-2-clause-piece g c).In_ok-right).new_there

made : (g : _) (c : In_ok-right g) {T E : Type 0} (result : Result T E) (new : List (Range g.row.K.Denot × g.row.V.Denot)) → OnOk result (new ≡ recut c.in_ok-left.left.rest (before g.K.Ord.cmp c.args.range.now.start c.args.pairs.now) ++ (piece_list c.in_ok-right.right.rest ++ from g.K.Ord.cmp c.args.range.now.end c.args.pairs.now))
    → OnOk result (IsChanged g.K.Ord.cmp g.V.PartialEq.eq c.args.pairs.now c.args.range.now None new)
made g c result new ok = on_ok (IsChanged g.K.Ord.cmp g.V.PartialEq.eq c.args.pairs.now c.args.range.now None) result new _ ok (known g c).made

pub returns-then-is_lt-clause-ok : goal.returns-then-is_lt-clause-ok
returns-then-is_lt-clause-ok g c = on_ok_weaker c.erase.result (λ h. h.canonical) (made g (goal.at.returns-then-is_lt-clause-ok g c).In_ok-right c.erase.result c.erase.new.self c.erase.ensures.ok)

pub returns-then-is_lt-clause-growth : goal.returns-then-is_lt-clause-growth
returns-then-is_lt-clause-growth g c = on_ok_weaker c.erase.result (λ h. h.growth) (made g (goal.at.returns-then-is_lt-clause-growth g c).In_ok-right c.erase.result c.erase.new.self c.erase.ensures.ok)

pub returns-clause-ok : goal.returns-clause-ok
returns-clause-ok g c = on_ok_weaker c.erase-2.result (λ h. h.canonical) (made g (goal.at.returns-clause-ok g c).In_ok-right c.erase-2.result c.erase-2.new.self c.erase-2.ensures.ok)

pub returns-clause-growth : goal.returns-clause-growth
returns-clause-growth g c = on_ok_weaker c.erase-2.result (λ h. h.growth) (made g (goal.at.returns-clause-growth g c).In_ok-right c.erase-2.result c.erase-2.new.self c.erase-2.ensures.ok)
