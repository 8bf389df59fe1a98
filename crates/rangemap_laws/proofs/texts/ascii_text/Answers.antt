use Rattle.std.proofs.Common.{Some, codes, decimal, nat_cmp, refl, rules}
use Rattle.std.specs.Char.{is_ascii}
use Rattle.std.specs.Fmt.{debug_str}
use Rattle.std.specs.List.{list_all}
use Rattle.rangemap_core.specs.Ranges.{half_open}
use Rattle.rangemap_formats.specs.Texts.{quoted}
use Rattle.rangemap_formats.proofs.TextLemmas.{known_where, map_text_known}
use Rattle.rangemap_laws.proofs.texts.ascii_text.Goals as goal

pub returns : goal.returns
returns c =
    let known = map_text_known (half_open nat_cmp) (codes "..") (λ n. Some (decimal n)) decimal (λ s. debug_str s.now) (λ s. quoted s.now) c.args.texts.now
    (known_where (half_open nat_cmp) (codes "..") (λ n. Some (decimal n)) decimal (λ s. debug_str s.now) (λ s. quoted s.now) (λ s. list_all is_ascii s.now) (λ n. refl) (λ s h. rw h refl) c.args.texts.now c.requires.ascii) in
    search (rules, rw known at c.format.ensures.ok)
