use Rattle.std.proofs.Common.{◌≡◌, ◌++◌, ◌∙◌, ap, Bool}
use Rattle.std.specs.BTreeMap.Range.{range_contains}
use Rattle.std.specs.declared.ops.Bound.TheVariants.{Included, Excluded}
use Rattle.rangemap_tree.specs.Starts.{before, from, piece_list, with_piece, without_all}
use Rattle.rangemap_tree.proofs.EntryLemmas.{tied_in_range}
use Rattle.rangemap_tree.proofs.StartLemmas.{erased, keyed_there, recut_is}
use Rattle.rangemap_tree.proofs.TakenLemmas.{taken_within, within_piece}
use Rattle.rangemap_tree.proofs.by_start.ByStart.erase.Goals as goal

pub put_piece-requires : goal.put_piece-requires
put_piece-requires g c = keyed_there g.K.Ord.cmp c.args.range.now.end c.args.remains.piece c.args.self.now c.requires.piece

pub returns-clause-ok : goal.returns-clause-ok
returns-clause-ok g c =
    let o = g.met.K.Ord.total in
    let cmp = g.K.Ord.cmp in
    let s = c.args.range.now.start in
    let t = c.args.range.now.end in
    let old = c.args.self.now in
    let starts = c.args.starts.now in
    let within : g.row.K.Denot → Bool = λ x. range_contains cmp (Included s) (Excluded t) x in
    let mid : c.take_all.new.self ≡ before cmp s old ++ (piece_list c.args.remains.piece ++ from cmp t old) =
    c.take_all.ensures
    ∙ ap (without_all cmp starts) c.in_ok-put_piece.ensures.ok
    ∙ taken_within o within (tied_in_range o (Included s) (Excluded t)) old (with_piece cmp c.args.remains.piece old) starts c.requires.starts (within_piece o t c.args.remains.piece old c.requires.piece (Included s))
    ∙ erased o s t c.requires.non_empty c.args.remains.piece old c.requires.piece c.requires.in_order in
    recut_is o s c.args.remains.cut old c.take_all.new.self c.recut.new.self (piece_list c.args.remains.piece ++ from cmp t old) c.requires.cut mid c.recut.ensures
