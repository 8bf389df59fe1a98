use Rattle.std.proofs.Common.{length}
use Rattle.std.specs.Fmt.{IsPlainFormatter}
use Rattle.rangemap_formats.specs.Texts.{others_text}
use Rattle.rangemap_formats.proofs.DisplayLemmas.{Shows}
use Rattle.rangemap_formats.proofs.text.ItemsReader.read.Given as goal

-- whatever shows what is left from here on shows all but the first
abbrev pub invariant-pairs : goal.invariant-pairs
invariant-pairs g l =
    let took = g.W.Write.write_str_gives in
    let text = g.T.PairText.text in
    (h : _) → IsPlainFormatter l.initial.f → (IsPlainFormatter l.f → Shows took l.f (others_text text (g.C.Cursor.left l.rest)) h) → Shows took l.initial.f (others_text text (g.C.Cursor.left l.initial.rest)) h

abbrev pub decreases-pairs : goal.decreases-pairs
decreases-pairs g l = length (g.C.Cursor.left l.rest)
