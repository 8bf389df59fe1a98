use Rattle.std.proofs.Common.{true, ◌≡◌, ap}
use Rattle.std.proofs.lemmas.Result.{IfOk-weaker}
use Rattle.rangemap_core.specs.Ranges.{same_ranges}
use Rattle.rangemap_laws.proofs.HandedLemmas.{all_shown}
use Rattle.rangemap_laws.proofs.GivenLemmas.{taken_as_shown}
use Rattle.rangemap_unions.proofs.CanonicalSetLemmas.{canonical_non_empty}
use Rattle.rangemap.proofs.SetRoundTripLemmas.{made_again, owned, same_points}
use Rattle.rangemap_laws.proofs.set_round_trips.from_iter_of_into_iter_is_equal.Goals as goal

pub from_iter-requires-clause-non_empty : goal.from_iter-requires-clause-non_empty
from_iter-requires-clause-non_empty g c it h =
    let k = g.S.Kind.Kind.kind in
    -- a range that is handed over is the very one that it shows
    let same : (range : g.row.S-Range.Denot) → g.S.IntoIter.Cursor.given range ≡ range = λ range. ap (λ pair. pair.0) (g.met.S.HandsOver.gives (range, tt)) in
    owned k g.S.IntoIter.Cursor.given same it c.args.set h.0 (canonical_non_empty k c.args.set h.1)

pub returns : goal.returns
returns g c =
    let k = g.S.Kind.Kind.kind in
    let list = c.args.set in
    let same : (range : g.row.S-Range.Denot) → g.S.IntoIter.Cursor.given range ≡ range = λ range. ap (λ pair. pair.0) (g.met.S.HandsOver.gives (range, tt)) in
    IfOk-weaker c.from_iter.result _ (λ again. same_ranges k list again ≡ true)
    (λ again h. same_points k g.met.S.Kind.Kind.placed list again c.known.ensures (made_again k h.0 list h.1 again h.2.0 (all_shown (λ left. left) (taken_as_shown g.S.IntoIter.Cursor.given same) h.0 h.1 h.3) h.4))
    c.from_iter.ensures.items
