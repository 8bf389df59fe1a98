use Rattle.std.proofs.Common.{◌≡◌, sym, ap, ◌∙◌, filter, is_lt, is_gt}
use Rattle.std.specs.BTreeMap.Range.{range_contains}
use Rattle.std.specs.Map.Iter.{deref_pair}
use Rattle.std.specs.declared.ops.Bound.TheVariants.{Excluded, Included}
use Rattle.std.specs.declared.ops.Range.{Range}
use Rattle.rangemap_core.specs.Ranges.{half_open, overlapped}
use Rattle.rangemap_core.specs.engine.EndpointKinds.{half_open_placed, lt_is}
use Rattle.rangemap_core.proofs.PlaceLemmas.{to_spaced}
use Rattle.rangemap_core.proofs.PlaceOrderLemmas.{lt_le}
use Rattle.rangemap_tree.proofs.SplitLemmas.{gt_of_le, less_if_above, not_le_of_gt}
use Rattle.rangemap_tree.proofs.NearLemmas.{taken_none, taken_some}
use Rattle.rangemap_tree.proofs.OverlapLemmas.{no_room, behind_none, behind_last, reached}
use Rattle.rangemap_tree.proofs.overlapping.overlap_start.Goals as goal
use Rattle.rangemap_tree.proofs.overlapping.overlap_start.Goals.{In_default, Then-is_gt, in_default-via-in-Some+else-is_gt, in_default-via-in_default}

-- where none that starts no later reaches past the start, those that start within the query are those that overlap it
within : (g : _) (c : In_default g) → filter (λ (p : Range g.row.K.Denot × g.row.V.Denot). range_contains g.K.Ord.cmp (Excluded c.args.query.now.start) (Excluded c.args.query.now.end) p.0.start) c.args.pairs.now ≡ overlapped (half_open g.K.Ord.cmp) c.args.pairs.now c.args.query.now
within g c =
    let o = g.met.K.Ord.total in
    let eq = g.V.PartialEq.eq in
    let e = g.met.V.Eq.laws in
    let ps = c.args.pairs.now in
    let q = c.args.query.now in
    let sp = to_spaced (half_open_placed o) eq ps c.requires in
    elim c.in_default.branch [
      | in_default-via-in-Some+else-is_gt w ↦
          let a : Range g.row.K.Denot × g.row.V.Denot = (w.in-Some.range.now, w.in-Some.field-0-1.now) in
          let is = taken_some deref_pair _ c.last_within.result c.last_within.ensures (w.in-Some.range, w.in-Some.field-0-1) w.in-Some.is in
          behind_last o eq e ps sp q c.last_within.ensures.0 a is (ap is_gt (sym w.cmp.ensures) ∙ sym w.is_gt.ensures ∙ w.if-is_gt.false)
      | in_default-via-in_default w ↦ behind_none o eq e ps sp q (taken_none deref_pair _ c.last_within.result c.last_within.ensures w.in_default.is)
    ]

-- where it does, those that start from it on
reaching : (g : _) (c : Then-is_gt g) → filter (λ (p : Range g.row.K.Denot × g.row.V.Denot). range_contains g.K.Ord.cmp (Included c.in-Some.range.now.start) (Excluded c.args.query.now.end) p.0.start) c.args.pairs.now ≡ overlapped (half_open g.K.Ord.cmp) c.args.pairs.now c.args.query.now
reaching g c =
    let o = g.met.K.Ord.total in
    let ps = c.args.pairs.now in
    let q = c.args.query.now in
    let a : Range g.row.K.Denot × g.row.V.Denot = (c.in-Some.range.now, c.in-Some.field-0-1.now) in
    reached o g.V.PartialEq.eq g.met.V.Eq.laws ps (to_spaced (half_open_placed o) g.V.PartialEq.eq ps c.requires) q c.in-Some.ensures.0 a c.in-Some.ensures.1 (less_if_above o a.0.end q.start (not_le_of_gt _ (ap is_gt (sym c.cmp.ensures) ∙ sym c.is_gt.ensures ∙ c.if-is_gt.true)))

pub returns-then-is_lt-clause-overlapped : goal.returns-then-is_lt-clause-overlapped
returns-then-is_lt-clause-overlapped g c = reaching g (goal.at.returns-then-is_lt-clause-overlapped g c).Then-is_gt

pub returns-else-is_lt-clause-overlapped : goal.returns-else-is_lt-clause-overlapped
returns-else-is_lt-clause-overlapped g c =
    let start = c.in-Some.range.now.start in
    let room = no_room g.met.K.Ord.total (Included start) start c.args.query.now.end (λ y h. gt_of_le (g.K.Ord.cmp start y) h) (ap is_lt (sym c.cmp-in-Some.ensures) ∙ sym c.is_lt.ensures ∙ c.if-is_lt.false) in
    (λ i. filter (λ (p : Range g.row.K.Denot × g.row.V.Denot). room p.0.start i) c.args.pairs.now) ∙ reaching g (goal.at.returns-else-is_lt-clause-overlapped g c).Then-is_gt

pub returns-then-is_lt-2-clause-overlapped : goal.returns-then-is_lt-2-clause-overlapped
returns-then-is_lt-2-clause-overlapped g c = within g (goal.at.returns-then-is_lt-2-clause-overlapped g c).In_default

pub returns-else-is_lt-2-clause-overlapped : goal.returns-else-is_lt-2-clause-overlapped
returns-else-is_lt-2-clause-overlapped g c =
    let q = c.args.query.now in
    let ps = c.args.pairs.now in
    let room = no_room g.met.K.Ord.total (Excluded q.start) q.start q.end (λ y h. lt_le g.met.K.Ord.total q.start y (lt_is (g.K.Ord.cmp q.start y) h)) (ap is_lt (sym c.cmp-in_default.ensures) ∙ sym c.is_lt-in_default.ensures ∙ c.if-is_lt-2.false) in
    (λ i. filter (λ (p : Range g.row.K.Denot × g.row.V.Denot). room p.0.start i) ps) ∙ within g (goal.at.returns-else-is_lt-2-clause-overlapped g c).In_default
