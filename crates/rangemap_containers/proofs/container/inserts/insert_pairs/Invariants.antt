use Rattle.std.proofs.Common.{◌≡◌, []}
use Rattle.rangemap_core.specs.Ranges.{Overrides}
use Rattle.rangemap_containers.proofs.container.inserts.insert_pairs.Given as goal

abbrev pub invariant-loop-range : goal.invariant-loop-range
invariant-loop-range g l = record {
  inserted : Overrides g.M.Kind.Kind.kind g.M.Value.PartialEq.eq (g.M.Container.pairs l.fn.container) l.yielded (g.M.Container.pairs l.container);
  of_nothing : l.yielded ≡ [] → g.M.Container.pairs l.container ≡ g.M.Container.pairs l.fn.container;
}
