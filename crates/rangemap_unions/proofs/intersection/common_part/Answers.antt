use Rattle.std.proofs.Common.{◌≡◌, ◌∙◌, true, ap, rules}
use Rattle.std.specs.Ordering.{is_lt}
use Rattle.rangemap_unions.specs.Items.{earlier_end, later_start, reaches}
use Rattle.rangemap_unions.proofs.IntersectionLemmas.{both_reached}
use Rattle.rangemap_unions.proofs.ItemLemmas.{reaches_places}
use Rattle.rangemap_unions.proofs.SideLemmas.{common_made, common_none}
use Rattle.rangemap_unions.proofs.StepLemmas.{on_err}
use Rattle.rangemap_unions.proofs.intersection.common_part.Goals as goal

pub returns-in_ok-between-clause-made : goal.returns-in_ok-between-clause-made
returns-in_ok-between-clause-made g c =
    let l = g.R.KeyRange.places in
    let left = c.args.left.now in
    let right = c.args.right.now in
    let first = c.if-is_lt.first.now in
    let last = c.if-left_ends_first.last.now in
    let starts : first ≡ later_start l left right = search rules in
    let ends : last ≡ earlier_end l left right = search rules in
    let places = reaches_places g.met.R.KeyRange.interval g.met.R.KeyRange.has_places last first in
    let reached : reaches l last first ≡ true = search rules in
    common_made g.R.KeyRange.read l left right first last starts ends (both_reached g.met.R.KeyRange.has_places left right first last starts ends reached) c.in_ok-between.field-0 c.in_ok-between.ensures.made

pub returns-in_err-between-clause-refused : goal.returns-in_err-between-clause-refused
returns-in_err-between-clause-refused g c =
    let l = g.R.KeyRange.places in
    let left = c.args.left.now in
    let right = c.args.right.now in
    let first = c.if-is_lt.first.now in
    let last = c.if-left_ends_first.last.now in
    let starts : first ≡ later_start l left right = search rules in
    let ends : last ≡ earlier_end l left right = search rules in
    let places = reaches_places g.met.R.KeyRange.interval g.met.R.KeyRange.has_places last first in
    let reached : reaches l last first ≡ true = search rules in
    on_err c.from_residual.result (both_reached g.met.R.KeyRange.has_places left right first last starts ends reached)

pub returns-else-reaches-clause-made : goal.returns-else-reaches-clause-made
returns-else-reaches-clause-made g c =
    let l = g.R.KeyRange.places in
    let left = c.args.left.now in
    let right = c.args.right.now in
    let first = c.if-is_lt.first.now in
    let last = c.if-left_ends_first.last.now in
    let starts : first ≡ later_start l left right = search rules in
    let ends : last ≡ earlier_end l left right = search rules in
    let places = reaches_places g.met.R.KeyRange.interval g.met.R.KeyRange.has_places last first in
    λ rest. common_none l left right first last
    (λ both. ap (λ r. is_lt (l.order (l.start_place r) (l.end_place last))) starts ∙ ap (λ r. is_lt (l.order (l.start_place (later_start l left right)) (l.end_place r))) ends ∙ ap is_lt (c.requires.in_order both))
    (search rules) rest
