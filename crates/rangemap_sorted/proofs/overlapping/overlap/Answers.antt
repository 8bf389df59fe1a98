use Rattle.rangemap_sorted.proofs.overlapping.overlap.Goals as goal

pub returns : goal.returns
returns g c =
    let start = c.overlap_start-start.ensures in
    let end = c.overlap_end.ensures in
    record { start_le_end = end.start_le_end; in_bounds = end.in_bounds; ended = start.point; begun = end.begun; later = end.later }
