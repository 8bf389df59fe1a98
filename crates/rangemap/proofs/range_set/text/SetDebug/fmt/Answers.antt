use Rattle.std.proofs.Common.{◌≡◌, ℕ, List, Option, ap, subst, ◌∙◌}
use Rattle.std.specs.Bool.{⊤}
use Rattle.std.specs.Fmt.{DisplaysOnOk}
use Rattle.rangemap_core.specs.Sets.{ranges}
use Rattle.rangemap_formats.specs.Texts.{braced_text, range_text}
use Rattle.rangemap_formats.proofs.TextLemmas.{braced_on}
use Rattle.rangemap.proofs.range_set.text.SetDebug.fmt.Goals as goal

-- the text of the ranges of pairs is that of the set that shows them
text_shown : {X : Type 0} (text : X → Option (List ℕ)) (ps : List (X × ⊤)) (list : List X) → ranges ps ≡ list → braced_text (λ (p : X × ⊤). text p.0) ps ≡ braced_text text list
text_shown {X} text ps list is = braced_on (λ (p : X × ⊤). p.0) text ps ∙ ap (braced_text text) is

pub returns : goal.returns
returns g c =
    let text = range_text g.S.Kind.Kind.kind g.S.Range.KeyRange.dots g.S.Range.Key.Debug.debug_output in
    record { writes = subst (λ o. DisplaysOnOk g.W.Write.write_str_gives c.args.f.now c.write.result o c.write.new.f) (text_shown text _ _ c.self.view_is) c.write.ensures }
