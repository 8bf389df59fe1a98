use Rattle.std.proofs.Common.{map, subst}
use Rattle.rangemap.specs.Ranges.{AreGaps}
use Rattle.calendar.specs.Bookings.{days}
use Rattle.calendar.proofs.Calendar.free.Goals as goal

pub returns : goal.returns
returns g c = subst (λ list. AreGaps days (map (λ pair. pair.0) list) c.args.days.now c.gaps.result) c.self.view_is c.gaps.ensures
