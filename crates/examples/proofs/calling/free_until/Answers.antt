use Rattle.rangemap.proofs.Loops.{asks_first_gap}
use Rattle.rangemap.proofs.SetNumberLemmas.{first_gap, some_gap}
use Rattle.examples.proofs.calling.free_until.Goals as goal

pub returns : goal.returns
returns c =
    let gap = first_gap c.args.map.now (record { start = c.args.at; end = c.args.limit }) (search asks_first_gap) (c.in-Some.is, c.in_ok-gap-in-Some.was) c.requires.forward c.requires.free in
    (gap.forward, gap.within, gap.free, gap.ends)

pub unreachable-requires : goal.unreachable-requires
unreachable-requires c = some_gap c.args.map.now (record { start = c.args.at; end = c.args.limit }) (search asks_first_gap) c.in-None.is c.requires.forward c.requires.free
