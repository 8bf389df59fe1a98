use Rattle.std.proofs.Common.{◌∙◌, sym, ap}
use Rattle.std.proofs.lemmas.List.{nil_from_length}
use Rattle.rangemap_tree.specs.Starts.{without_all}
use Rattle.rangemap_tree.proofs.TakenLemmas.{without_next, without_none}
use Rattle.rangemap_tree.proofs.by_start.ByStart.take_all.Goals as goal

pub keys-preserved : goal.keys-preserved
keys-preserved g c =
    let cmp = g.K.Ord.cmp in
    ap (without_all cmp c.in-Some.others.now) c.take.ensures
    ∙ without_next cmp c.in-Some.first.now c.in-Some.others.now c.keys.self
    ∙ ap (λ keys. without_all cmp keys c.keys.self) (sym c.in-Some.ensures.cases.0)
    ∙ c.keys.invariant

pub returns : goal.returns
returns g c =
    let cmp = g.K.Ord.cmp in
    sym (without_none cmp c.keys.self) ∙ ap (λ keys. without_all cmp keys c.keys.self) (sym (nil_from_length c.keys.rest.now (rw c.in_default.is at c.split_first.ensures.cases))) ∙ c.keys.invariant
