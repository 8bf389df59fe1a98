use Rattle.std.proofs.Common.{true, ◌≡◌}
use Rattle.std.proofs.lemmas.Result.{IfOk-weaker}
use Rattle.rangemap_core.specs.Ranges.{nothing, override_all, same_pairs}
use Rattle.rangemap_core.specs.Shown.{shown}
use Rattle.rangemap_laws.proofs.HandedLemmas.{all_shown, handed}
use Rattle.rangemap_core.proofs.IncomingLemmas.{canonical_non_empty}
use Rattle.rangemap_core.proofs.OwnPairLemmas.{made_again, own}
use Rattle.rangemap_core.proofs.UniquenessLemmas.{canon_unique}
use Rattle.rangemap_laws.proofs.GivenLemmas.{taken_as_shown}
use Rattle.rangemap_laws.proofs.map_round_trips.from_iter_of_into_iter_is_equal.Goals as goal

pub from_iter-requires-clause-non_empty : goal.from_iter-requires-clause-non_empty
from_iter-requires-clause-non_empty g c it h =
    let k = g.S.Kind.Kind.kind in
    handed k (λ left. left) (taken_as_shown (shown g.S.IntoIter.Cursor.given g.S.IntoIter.Cursor.given_value) g.met.S.HandsOver.gives) it c.args.map h.0 (canonical_non_empty k g.S.Value.PartialEq.eq c.args.map h.1)

pub returns : goal.returns
returns g c =
    let k = g.S.Kind.Kind.kind in
    let p = g.met.S.Kind.Kind.placed in
    let eq = g.S.Value.PartialEq.eq in
    let e = g.met.S.Value.Eq.laws in
    let list = c.args.map in
    IfOk-weaker c.from_iter.result _ (λ again. same_pairs k eq list again ≡ true)
    (λ again h. canon_unique k p eq e (override_all k nothing list) list again (own k p eq e list h.2.1) (made_again k eq h.0 list h.1 again h.2.0 (all_shown (λ left. left) (taken_as_shown (shown g.S.IntoIter.Cursor.given g.S.IntoIter.Cursor.given_value) g.met.S.HandsOver.gives) h.0 h.1 h.3) h.4))
    c.from_iter.ensures.items
