use Rattle.rangemap_sorted.proofs.CoveringLemmas.{starts_rise}
use Rattle.rangemap_core.proofs.SearchLemmas.{point_of_starts}
use Rattle.rangemap_sorted.proofs.search.starts_up_to.Goals as goal

pub count_up_to-requires-clause-rising : goal.count_up_to-requires-clause-rising
count_up_to-requires-clause-rising g c = rw (c.new-probe.ensures.starts) (starts_rise g.met.Q.Kind.placed g.V.PartialEq.eq c.args.key.now c.args.pairs.now c.requires)

pub returns-clause-point : goal.returns-clause-point
returns-clause-point g c = point_of_starts g.Q.Kind.kind c.args.key.now c.args.pairs.now c.new-probe.result.0 c.count_up_to.result c.new-probe.ensures.starts c.count_up_to.ensures.bound c.count_up_to.ensures.point
