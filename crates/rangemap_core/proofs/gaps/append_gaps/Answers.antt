use Rattle.rangemap_core.proofs.gaps.append_gaps.Goals as goal

pub returns-clause-ok : goal.returns-clause-ok
returns-clause-ok g c = rw (← c.over.ensures.items) c.append_items.ensures.ok
