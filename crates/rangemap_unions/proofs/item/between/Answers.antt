use Rattle.std.proofs.Common.{◌≡◌, Equal, ◌∙◌, ap, sym}
use Rattle.rangemap_unions.proofs.ItemLemmas.{made_between, some_between}
use Rattle.rangemap_unions.proofs.item.between.Goals.{After-between}
use Rattle.rangemap_unions.proofs.item.between.Goals as goal

-- the clones compare as the ends do
cloned : (g : _) (c : After-between g) → (g.R.KeyRange.read.cmp (g.R.KeyRange.read.start c.args.first.now) c.in_ok-start.start ≡ Equal) × (g.R.KeyRange.read.cmp (g.R.KeyRange.read.end c.args.last.now) c.in_ok-end.end ≡ Equal)
cloned g c =
    let k = g.R.KeyRange.read in
    let keys = g.met.R.KeyRange.order in (
      ap (λ x. k.cmp x c.in_ok-start.start) (sym c.start.ensures) ∙ keys _ _ ∙ c.requires.faithful_keys _ _ c.in_ok-start.ensures.cases,
      ap (λ x. k.cmp x c.in_ok-end.end) (sym c.end.ensures) ∙ keys _ _ ∙ c.requires.faithful_keys _ _ c.in_ok-end.ensures.cases,
    )

pub returns-clause-made : goal.returns-clause-made
returns-clause-made g c =
    let same = cloned g (goal.at.returns-clause-made g c).After-between in
    made_between g.met.R.KeyRange.interval g.met.R.KeyRange.has_places _ _ _ _ same.0 same.1 c.in-Some.item c.in-Some.ensures

pub unreachable-requires : goal.unreachable-requires
unreachable-requires g c =
    let same = cloned g (goal.at.unreachable-requires g c).After-between in
    some_between g.met.R.KeyRange.interval g.met.R.KeyRange.has_places _ _ _ _ same.0 same.1 c.requires.in_order c.in-None.ensures
