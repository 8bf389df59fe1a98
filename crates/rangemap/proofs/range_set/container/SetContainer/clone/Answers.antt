use Rattle.std.proofs.Common.{◌∙◌, sym}
use Rattle.std.proofs.lemmas.Result.{IfOk-weaker}
use Rattle.rangemap_core.specs.laws.UnitPairs.{same_with_unit}
use Rattle.rangemap_unions.proofs.SetLemmas.{copied}
use Rattle.rangemap.proofs.range_set.container.SetContainer.clone.Goals as goal

pub returns-clause-same : goal.returns-clause-same
returns-clause-same g c = IfOk-weaker c.clone.result _ _ (λ copy h. sym (same_with_unit g.S.Kind.Kind.kind c.args.self.now copy) ∙ h) c.clone.ensures.same

pub returns-clause-canon : goal.returns-clause-canon
returns-clause-canon g c = IfOk-weaker c.clone.result _ _ (λ copy h. copied g.S.Kind.Kind.kind c.args.self.now copy h) c.clone.ensures.canon
