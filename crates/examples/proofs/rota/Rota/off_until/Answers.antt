use Rattle.std.proofs.Common.{Ok, Some, None, refl, subst}
use Rattle.rangemap.specs.MadeRanges.{TakesRange}
use Rattle.rangemap.proofs.Loops.{asks_first_gap}
use Rattle.rangemap.proofs.SetNumberLemmas.{first_gap, some_gap}
use Rattle.examples.specs.Rota.{hours}
use Rattle.examples.proofs.rota.Rota.off_until.Goals as goal

pub returns : goal.returns
returns c =
    let taken = subst (λ item. TakesRange hours c.gaps.result item c.try_next.new.self) c.in-Ok-Some.field-0-is c.in-Ok-Some.ensures.ok in
    let gap = first_gap c.args.self.now.shifts (record { start = c.args.hour; end = c.args.limit }) (asks_first_gap {result = Some (Ok c.in-Ok-Some.gap)} _ _ c.gaps.ensures taken) (refl, refl) c.requires.forward c.requires.off in
    record { forward = gap.forward; within = gap.within; off = gap.free; ends = gap.ends }

pub unreachable-requires : goal.unreachable-requires
unreachable-requires c =
    let taken = subst (λ item. TakesRange hours c.gaps.result item c.try_next.new.self) c.in-Ok-None.field-0-is c.in-Ok-None.ensures.ok in
    some_gap c.args.self.now.shifts (record { start = c.args.hour; end = c.args.limit }) (asks_first_gap {result = None} _ _ c.gaps.ensures taken) refl c.requires.forward c.requires.off
