use Rattle.std.proofs.Common.{◌≡◌, ◌+◌, ◌≤◌}
use Rattle.rangemap_core.specs.engine.Shape.{is_up_to}
use Rattle.rangemap_sorted.proofs.HalvingLemmas.{IsHalved}
use Rattle.rangemap_sorted.proofs.search.count_up_to.Given as goal

abbrev pub invariant-halves : goal.invariant-halves
invariant-halves g l = (l.probe.0 ≡ l.fn.probe.0) × IsHalved (is_up_to g.Q.Kind.kind.cmp l.key) l.fn.probe.0 l.exponent l.probe.1 l.base l.half

abbrev pub decreases-halves : goal.decreases-halves
decreases-halves g l = l.half

-- it never turns, since the power fits
abbrev pub invariant-fits : goal.invariant-fits
invariant-fits g l = (l.half ≡ l.initial.half) × (l.base + l.half ≤ l.len)

abbrev pub decreases-fits : goal.decreases-fits
decreases-fits g l = l.half
