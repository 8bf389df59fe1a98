use Rattle.std.proofs.Common.{arith, refl, sym, subst}
use Rattle.rangemap_formats.specs.Entries.{Follows}
use Rattle.rangemap_formats.proofs.LastPairLemmas.{ends_with, one_last}
use Rattle.rangemap_formats.proofs.json.reading.check_form.Goals as goal

pub returns-in-Apart-clause-ok : goal.returns-in-Apart-clause-ok
returns-in-Apart-clause-ok g c is last at_end =
    let told = c.in-Apart.ensures in
    subst (λ (q : g.row.S-Range.Denot × g.row.S-Value.Denot). Follows g.S.Kind.Kind.kind g.S.Value.PartialEq.eq q (c.args.range.now, c.args.value.now))
    (one_last (g.S.Store.pairs c.args.all.now) _ last (sym c.in-Some.ensures) at_end)
    (record { before = told.0; differs = λ t. absurd (told.1 t) })

pub returns-in-Touching-2-clause-err : goal.returns-in-Touching-2-clause-err
returns-in-Touching-2-clause-err g c =
    let told = c.in-Touching-2.ensures in
    (c.in-Canonical.is, (_, ends_with (g.S.Store.pairs c.args.all.now) _ (sym c.in-Some.ensures), (refl, told.0, told.1, grind (arith, c.ne.ensures, c.if-ne.false))))

pub returns-in-NotBefore-clause-err : goal.returns-in-NotBefore-clause-err
returns-in-NotBefore-clause-err g c =
    (c.in-Canonical.is, (_, ends_with (g.S.Store.pairs c.args.all.now) _ (sym c.in-Some.ensures), (refl, c.in-NotBefore.ensures)))
