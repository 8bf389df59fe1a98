use Rattle.std.proofs.Common.{List, subst, ◌∙◌}
use Rattle.std.proofs.IntoIterSteps.{All-taken}
use Rattle.std.proofs.lemmas.Result.{IfOk-weaker}
use Rattle.std.specs.Vec.Iter.{into_iter_items}
use Rattle.rangemap.specs.Ranges.{IsCanonOfPoints, covers}
use Rattle.rangemap_unions.proofs.IncomingRangeLemmas.{listed}
use Rattle.rangemap.proofs.range_set.Set.from.Goals as goal

pub from_iter-requires-clause-non_empty : goal.from_iter-requires-clause-non_empty
from_iter-requires-clause-non_empty g c it h =
    listed g.S.Kind.Kind.kind into_iter_items h.3 it _ (h.0 ∙ c.in_ok-ranges.ensures.items) c.requires.non_empty

pub returns : goal.returns
returns g c =
    IfOk-weaker c.from_iter.result _ _ (λ all h. subst (λ (rs : List g.row.S-Range.Denot). IsCanonOfPoints g.S.Kind.Kind.kind (covers g.S.Kind.Kind.kind rs) all) (All-taken h.0 h.1 h.3 ∙ (h.2.0 ∙ c.in_ok-ranges.ensures.items)) h.4) c.from_iter.ensures.items
