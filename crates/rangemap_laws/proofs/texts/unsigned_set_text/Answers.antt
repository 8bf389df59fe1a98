use Rattle.std.proofs.Common.{Some, codes, decimal, nat_cmp, refl, rules}
use Rattle.rangemap_core.specs.Ranges.{half_open}
use Rattle.rangemap_formats.proofs.TextLemmas.{all_keys_known, set_text_known}
use Rattle.rangemap_laws.proofs.texts.unsigned_set_text.Goals as goal

pub returns : goal.returns
returns c =
    let known = set_text_known (half_open nat_cmp) (codes "..") (λ n. Some (decimal n)) decimal c.args.set.now
    (all_keys_known (half_open nat_cmp) (codes "..") (λ n. Some (decimal n)) decimal (λ n. refl) c.args.set.now) in
    search (rules, rw known at c.format.ensures.ok)
