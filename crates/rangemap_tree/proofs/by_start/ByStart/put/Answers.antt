use Rattle.std.proofs.Common.{◌≡◌, List, ◌∷◌, ◌++◌, ◌∙◌, sym, ap, subst}
use Rattle.std.specs.Map.{values_of}
use Rattle.std.specs.BTreeMap.{insert_entry}
use Rattle.std.specs.declared.ops.Range.{Range}
use Rattle.rangemap_core.proofs.InsertSideLemmas.{on_ok}
use Rattle.rangemap_tree.specs.Starts.{AreKeyed, before, entries_in, past}
use Rattle.rangemap_tree.proofs.ResultLemmas.{by_result}
use Rattle.rangemap_tree.proofs.EntryLemmas.{put_is, put_keyed}
use Rattle.rangemap_tree.proofs.by_start.ByStart.put.Goals as goal

pub invariant_of-self : goal.invariant_of-self
invariant_of-self g c =
    let cmp = g.K.Ord.cmp in
    let es = c.in-Some.tree.entries in
    let pair : Range g.row.K.Denot × g.row.V.Denot = (c.args.range, c.args.value) in
    let keyed : AreKeyed cmp es = subst (λ tree. AreKeyed cmp (entries_in tree)) c.in-Some.is c.self.invariant in
    by_result (AreKeyed cmp) c.insert.result es c.insert.new.tree.entries (insert_entry cmp es c.args.key pair) c.insert.ensures.ok c.insert.ensures.err (put_keyed g.met.K.Ord.total c.args.key pair es c.requires keyed) keyed

pub returns-in-Some-clause-ok : goal.returns-in-Some-clause-ok
returns-in-Some-clause-ok g c =
    let cmp = g.K.Ord.cmp in
    let es = c.in-Some.tree.entries in
    let key = c.args.key in
    let pair : Range g.row.K.Denot × g.row.V.Denot = (c.args.range, c.args.value) in
    let keyed : AreKeyed cmp es = subst (λ tree. AreKeyed cmp (entries_in tree)) c.in-Some.is c.self.invariant in
    let whole : values_of es ≡ c.args.self.now = ap (λ tree. values_of (entries_in tree)) (sym c.in-Some.is) ∙ c.self.view_is in
    on_ok (λ (fs : List (g.row.K.Denot × (Range g.row.K.Denot × g.row.V.Denot))). values_of fs ≡ before cmp key c.args.self.now ++ pair ∷ past cmp key c.args.self.now) c.insert.result c.insert.new.tree.entries (insert_entry cmp es key pair) c.insert.ensures.ok
    (put_is g.met.K.Ord.total key pair es keyed c.insert.ensures.was_ordered ∙ (λ i. before cmp key (whole i) ++ pair ∷ past cmp key (whole i)))
