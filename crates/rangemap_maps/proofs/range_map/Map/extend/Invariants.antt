use Rattle.std.proofs.Common.{◌≡◌, []}
use Rattle.rangemap_core.specs.Ranges.{Overrides}
use Rattle.rangemap_maps.proofs.range_map.Map.extend.Given as goal

abbrev pub invariant-loop-range : goal.invariant-loop-range
invariant-loop-range g l = record {
  inserted : Overrides g.S.Kind.Kind.kind g.S.Value.PartialEq.eq l.fn.self l.yielded l.self;
  of_nothing : l.yielded ≡ [] → l.self ≡ l.fn.self;
}
