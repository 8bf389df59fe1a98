use Rattle.std.proofs.Common.{refl, rules}
use Rattle.rangemap_core.specs.Ranges.{overlapped}
use Rattle.rangemap_core.proofs.AppendLemmas.{appended_alone}
use Rattle.rangemap_laws.proofs.commands.answers.answer.Goals as goal

pub returns-in_ok-append_all-in-All : goal.returns-in_ok-append_all-in-All
returns-in_ok-append_all-in-All g c =
    let appended = appended_alone g.M.Kind.Kind.kind g.M.Value.PartialEq.eq (g.M.Container.pairs c.args.map.now) c.new-pairs.result.items c.append_all.new.out.items c.new-pairs.ensures.items (search rules) in
    rw c.in-All.is (c.append_all.new.out, refl, appended.0, appended.1, refl)

pub returns-in_ok-append_overlapping-in-Overlapping : goal.returns-in_ok-append_overlapping-in-Overlapping
returns-in_ok-append_overlapping-in-Overlapping g c =
    let k = g.M.Kind.Kind.kind in
    let appended = appended_alone k g.M.Value.PartialEq.eq (overlapped k (g.M.Container.pairs c.args.map.now) c.in-Overlapping.query) c.new-pairs-in-Overlapping.result.items c.append_overlapping.new.out.items c.new-pairs-in-Overlapping.ensures.items (search rules) in
    rw c.in-Overlapping.is (c.append_overlapping.new.out, refl, appended.0, appended.1, refl)
