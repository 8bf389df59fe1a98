use Rattle.std.proofs.Common.{◌≡◌, List, [], ◌∷◌, ◌++◌, ◌∙◌, Some, ap, false, filter, is_gt, is_lt, subst, sym, OnOk, Result}
use Rattle.std.proofs.lemmas.Result.{on_ok_weaker}
use Rattle.std.specs.BTreeMap.Range.{range_contains}
use Rattle.std.specs.Map.Iter.{deref_pair}
use Rattle.std.specs.declared.ops.Bound.TheVariants.{Excluded}
use Rattle.std.specs.declared.ops.Range.{Range}
use Rattle.rangemap_core.specs.engine.EndpointKinds.{half_open_placed}
use Rattle.rangemap_core.specs.engine.Stretch.{Every}
use Rattle.rangemap_core.proofs.InsertSideLemmas.{on_ok}
use Rattle.rangemap_core.proofs.PlaceLemmas.{to_spaced}
use Rattle.rangemap_tree.specs.Starts.{AreStarts, before, from, past, recut, piece_list, up_to}
use Rattle.rangemap_tree.proofs.ChangeLemmas.{IsChange, IsChanged, change}
use Rattle.rangemap_tree.proofs.NearLemmas.{none_after, none_within, parts_near, taken_none, taken_some}
use Rattle.rangemap_tree.proofs.StartLemmas.{turned}
use Rattle.rangemap_tree.proofs.insert.insert.Goals as goal
use Rattle.rangemap_tree.proofs.insert.insert.Goals.{After-unwrap_or-2, in_default-via-in-Some+else-is_gt, in_default-via-in_default}

pub left_side-requires-clause-near : goal.left_side-requires-clause-near
left_side-requires-clause-near g c = c.last_within-near.ensures

pub right_side-requires-clause-near : goal.right_side-requires-clause-near
right_side-requires-clause-near g c = c.last_within-near.ensures

-- all that is said of the middle and of the list that is made around it
known : (g : _) (c : After-unwrap_or-2 g) → IsChange g.K.Ord.cmp g.V.PartialEq.eq c.args.pairs.now c.args.range (Some c.args.value) c.in_ok-left.left.rest c.in_ok-right.right.rest (record { start = c.unwrap_or.result; end = c.unwrap_or-2.result })
known g c = change g.met.K.Ord.total g.V.PartialEq.eq g.met.V.Eq.laws c.args.pairs.now c.requires.canonical c.args.range c.requires.non_empty (Some c.args.value) c.in_ok-left.left.outer_end c.in_ok-right.right.outer_end c.in_ok-left.left.rest c.in_ok-right.right.rest c.in_ok-left.ensures c.in_ok-right.ensures (record { start = c.unwrap_or.result; end = c.unwrap_or-2.result }) c.unwrap_or.ensures c.unwrap_or-2.ensures

pub starts_between-requires-clause-forward : goal.starts_between-requires-clause-forward
starts_between-requires-clause-forward g c = (known g (goal.at.starts_between-requires-clause-forward g c).After-unwrap_or-2).full

pub replace-requires : goal.replace-requires
replace-requires g c =
    let cmp = g.K.Ord.cmp in
    let m : Range g.row.K.Denot = record { start = c.unwrap_or.result; end = c.unwrap_or-2.result } in
    let k = known g (goal.at.replace-requires g c).After-unwrap_or-2 in
    record {
      key = turned g.met.K.Ord.total _ _ (c.requires.faithful_keys _ _ c.in_ok-key.ensures.cases);
      non_empty = k.full;
      cut = k.cut_there;
      piece = k.new_there;
      starts = subst (AreStarts cmp (filter (λ p. range_contains cmp (Excluded m.start) (Excluded m.end) p.0.start) c.args.pairs.now)) (sym c.as_slice.ensures.value) c.in_ok-starts-in-Some.ensures;
    }

pub replace-requires-in_default : goal.replace-requires-in_default
replace-requires-in_default g c =
    let o = g.met.K.Ord.total in
    let cmp = g.K.Ord.cmp in
    let eq = g.V.PartialEq.eq in
    let e = g.met.V.Eq.laws in
    let ps = c.args.pairs.now in
    let r = c.args.range in
    let m : Range g.row.K.Denot = record { start = c.unwrap_or.result; end = c.unwrap_or-2.result } in
    let k = known g (goal.at.replace-requires-in_default g c).After-unwrap_or-2 in
    let sp = to_spaced (half_open_placed o) eq ps c.requires.canonical in
    let near = c.last_within-near in
    let front = up_to cmp r.end ps in
    let back = past cmp r.end ps in
    let whole : front ++ back ≡ ps = (parts_near o eq e ps sp r (Some c.args.value)).0 in
    let later : Every (λ (p : Range g.row.K.Denot × g.row.V.Denot). is_gt (cmp m.end p.0.start) ≡ false) back = k.behind in
    let none : filter (λ (p : Range g.row.K.Denot × g.row.V.Denot). range_contains cmp (Excluded m.start) (Excluded m.end) p.0.start) ps ≡ [] = elim c.in_default.branch [
      | in_default-via-in-Some+else-is_gt v ↦
          let a : Range g.row.K.Denot × g.row.V.Denot = (v.in-Some.last.now, v.in-Some.field-0-1.now) in
          none_after o eq e ps sp front back whole near.ensures.0 a (taken_some deref_pair front near.result near.ensures (v.in-Some.last, v.in-Some.field-0-1) v.in-Some.is) m.start m.end later (ap is_gt (sym v.cmp.ensures) ∙ sym v.is_gt.ensures ∙ v.if-is_gt.false)
      | in_default-via-in_default v ↦ none_within o eq e ps sp front back whole (Excluded m.start) m.end (subst (Every (λ (p : Range g.row.K.Denot × g.row.V.Denot). is_lt (cmp m.start p.0.start) ≡ false)) (sym (taken_none deref_pair front near.result near.ensures v.in_default.is)) tt) later
    ] in
    record {
      key = turned o _ _ (c.requires.faithful_keys _ _ c.in_ok-key.ensures.cases);
      non_empty = k.full;
      cut = k.cut_there;
      piece = k.new_there;
      starts = subst (λ qs. AreStarts cmp qs []) (sym none) tt;
    }

made : (g : _) (c : After-unwrap_or-2 g) {T E : Type 0} (result : Result T E) (new : List (Range g.row.K.Denot × g.row.V.Denot)) → OnOk result (new ≡ recut c.in_ok-left.left.rest (before g.K.Ord.cmp c.unwrap_or.result c.args.pairs.now) ++ (record { start = c.unwrap_or.result; end = c.unwrap_or-2.result }, c.args.value) ∷ (piece_list c.in_ok-right.right.rest ++ from g.K.Ord.cmp c.unwrap_or-2.result c.args.pairs.now))
    → OnOk result (IsChanged g.K.Ord.cmp g.V.PartialEq.eq c.args.pairs.now c.args.range (Some c.args.value) new)
made g c result new ok = on_ok (IsChanged g.K.Ord.cmp g.V.PartialEq.eq c.args.pairs.now c.args.range (Some c.args.value)) result new _ ok (known g c).made

pub returns-in_ok-starts-in-Some-clause-ok : goal.returns-in_ok-starts-in-Some-clause-ok
returns-in_ok-starts-in-Some-clause-ok g c = on_ok_weaker c.replace.result (λ h. h.canonical) (made g (goal.at.returns-in_ok-starts-in-Some-clause-ok g c).After-unwrap_or-2 c.replace.result c.replace.new.self c.replace.ensures.ok)

pub returns-in_ok-starts-in-Some-clause-newest : goal.returns-in_ok-starts-in-Some-clause-newest
returns-in_ok-starts-in-Some-clause-newest g c = on_ok_weaker c.replace.result (λ h. h.newest) (made g (goal.at.returns-in_ok-starts-in-Some-clause-newest g c).After-unwrap_or-2 c.replace.result c.replace.new.self c.replace.ensures.ok)

pub returns-in_ok-starts-in-Some-clause-growth : goal.returns-in_ok-starts-in-Some-clause-growth
returns-in_ok-starts-in-Some-clause-growth g c = on_ok_weaker c.replace.result (λ h. h.growth) (made g (goal.at.returns-in_ok-starts-in-Some-clause-growth g c).After-unwrap_or-2 c.replace.result c.replace.new.self c.replace.ensures.ok)

pub returns-in_ok-starts-in-Some-clause-growth_where_all_are_equal : goal.returns-in_ok-starts-in-Some-clause-growth_where_all_are_equal
returns-in_ok-starts-in-Some-clause-growth_where_all_are_equal g c = on_ok_weaker c.replace.result (λ h. h.growth_where_all_are_equal) (made g (goal.at.returns-in_ok-starts-in-Some-clause-growth_where_all_are_equal g c).After-unwrap_or-2 c.replace.result c.replace.new.self c.replace.ensures.ok)

pub returns-in_default-clause-ok : goal.returns-in_default-clause-ok
returns-in_default-clause-ok g c = on_ok_weaker c.replace-in_default.result (λ h. h.canonical) (made g (goal.at.returns-in_default-clause-ok g c).After-unwrap_or-2 c.replace-in_default.result c.replace-in_default.new.self c.replace-in_default.ensures.ok)

pub returns-in_default-clause-newest : goal.returns-in_default-clause-newest
returns-in_default-clause-newest g c = on_ok_weaker c.replace-in_default.result (λ h. h.newest) (made g (goal.at.returns-in_default-clause-newest g c).After-unwrap_or-2 c.replace-in_default.result c.replace-in_default.new.self c.replace-in_default.ensures.ok)

pub returns-in_default-clause-growth : goal.returns-in_default-clause-growth
returns-in_default-clause-growth g c = on_ok_weaker c.replace-in_default.result (λ h. h.growth) (made g (goal.at.returns-in_default-clause-growth g c).After-unwrap_or-2 c.replace-in_default.result c.replace-in_default.new.self c.replace-in_default.ensures.ok)

pub returns-in_default-clause-growth_where_all_are_equal : goal.returns-in_default-clause-growth_where_all_are_equal
returns-in_default-clause-growth_where_all_are_equal g c = on_ok_weaker c.replace-in_default.result (λ h. h.growth_where_all_are_equal) (made g (goal.at.returns-in_default-clause-growth_where_all_are_equal g c).After-unwrap_or-2 c.replace-in_default.result c.replace-in_default.new.self c.replace-in_default.ensures.ok)
