use Rattle.std.proofs.Common.{Some, codes, decimal, int_cmp, refl, rules}
use Rattle.std.specs.Fmt.{signed_decimal}
use Rattle.std.specs.Prelude.{⊤}
use Rattle.rangemap_core.specs.Ranges.{closed}
use Rattle.rangemap_formats.proofs.TextLemmas.{all_known, map_text_known}
use Rattle.rangemap_laws.proofs.texts.signed_text.Goals as goal

-- a text reads starts and ends alone, so any values may count as keys
pub returns : goal.returns
returns c =
    let known = map_text_known (closed (λ _. ⊤) int_cmp) (codes "..=") (λ n. Some (signed_decimal n)) signed_decimal (λ n. Some (decimal n)) decimal c.args.signed.now
    (all_known (closed (λ _. ⊤) int_cmp) (codes "..=") (λ n. Some (signed_decimal n)) signed_decimal (λ n. Some (decimal n)) decimal (λ n. refl) (λ n. refl) c.args.signed.now) in
    search (rules, rw known at c.format.ensures.ok)
