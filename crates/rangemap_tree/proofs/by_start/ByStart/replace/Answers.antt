use Rattle.std.proofs.Common.{◌≡◌, List, ◌∷◌, ◌++◌, ◌∙◌, sym, ap, Bool}
use Rattle.std.specs.Cmp.{tied_itself}
use Rattle.std.specs.BTreeMap.Range.{range_contains}
use Rattle.std.specs.declared.ops.Bound.TheVariants.{Excluded}
use Rattle.std.specs.declared.ops.Range.{Range}
use Rattle.rangemap_tree.specs.Starts.{before, from, past, piece_list, with_piece, without, without_all}
use Rattle.rangemap_tree.proofs.EntryLemmas.{tied_in_range}
use Rattle.rangemap_tree.proofs.StartLemmas.{before_tied, no_piece, past_tied, recut_is, replaced, undone_piece}
use Rattle.rangemap_tree.proofs.TakenLemmas.{taken_within, within_both}
use Rattle.rangemap_tree.proofs.by_start.ByStart.replace.Goals as goal
use Rattle.rangemap_tree.proofs.by_start.ByStart.replace.Goals.{then-has_piece, else-has_piece}

pub returns-in-Err-clause-err : goal.returns-in-Err-clause-err
returns-in-Err-clause-err g c = elim c.if-has_piece.branch [
  | then-has_piece w ↦
      w.self-is ∙ w.take.ensures
      ∙ (λ i. without g.K.Ord.cmp (c.in-Err.ensures.given_back i).end ((c.in-Err.ensures.err ∙ c.in_ok-put_piece.ensures.ok) i))
      ∙ undone_piece g.met.K.Ord.total c.args.range.end c.args.remains.piece c.args.self.now c.requires.piece (sym c.is_some-has_piece.ensures ∙ w.if-has_piece.true)
  | else-has_piece w ↦
      w.self-is ∙ c.in-Err.ensures.err ∙ c.in_ok-put_piece.ensures.ok
      ∙ no_piece g.met.K.Ord.total c.args.remains.piece c.args.self.now (sym c.is_some-has_piece.ensures ∙ w.if-has_piece.false)
]

pub returns-clause-ok : goal.returns-clause-ok
returns-clause-ok g c =
    let o = g.met.K.Ord.total in
    let cmp = g.K.Ord.cmp in
    let s = c.args.range.start in
    let t = c.args.range.end in
    let old = c.args.self.now in
    let starts = c.args.starts.now in
    let m : Range g.row.K.Denot × g.row.V.Denot = (c.args.range, c.args.value) in
    let with_it : List (Range g.row.K.Denot × g.row.V.Denot) = with_piece cmp c.args.remains.piece old in
    let within : g.row.K.Denot → Bool = λ x. range_contains cmp (Excluded s) (Excluded t) x in
    let mid : c.take_all.new.self ≡ before cmp s old ++ m ∷ (piece_list c.args.remains.piece ++ from cmp t old) =
    c.take_all.ensures
    ∙ ap (without_all cmp starts) (c.in_default.ensures.ok ∙ (λ i. before cmp c.args.key (c.in_ok-put_piece.ensures.ok i) ++ m ∷ past cmp c.args.key (c.in_ok-put_piece.ensures.ok i)) ∙ (λ i. before_tied o c.args.key s c.requires.key with_it i ++ m ∷ past_tied o c.args.key s c.requires.key with_it i))
    ∙ taken_within o within (tied_in_range o (Excluded s) (Excluded t)) old (before cmp s with_it ++ m ∷ past cmp s with_it) starts c.requires.starts (within_both o t c.args.remains.piece old c.requires.piece s m (tied_itself o s))
    ∙ replaced o s t c.requires.non_empty c.args.remains.piece old c.requires.piece m (tied_itself o s) in
    recut_is o s c.args.remains.cut old c.take_all.new.self c.recut.new.self (m ∷ (piece_list c.args.remains.piece ++ from cmp t old)) c.requires.cut mid c.recut.ensures
