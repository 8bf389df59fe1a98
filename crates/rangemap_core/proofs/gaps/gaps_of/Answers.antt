use Rattle.rangemap_core.proofs.gaps.gaps_of.Goals as goal

pub returns : goal.returns
returns g c = c.over.ensures.gaps g.S.Value.PartialEq.eq (g.S.Store.pairs c.args.stored.now) c.known.ensures c.known_ends.ensures c.overlapping.ensures
