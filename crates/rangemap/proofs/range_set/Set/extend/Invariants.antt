use Rattle.std.proofs.Common.{◌≡◌, []}
use Rattle.rangemap.specs.Sets.{Adds}
use Rattle.rangemap.proofs.range_set.Set.extend.Given as goal

-- what came so far was added
abbrev pub invariant-loop-range : goal.invariant-loop-range
invariant-loop-range g l = record {
  added : Adds g.S.Kind.Kind.kind l.fn.self l.yielded l.self;
  of_nothing : l.yielded ≡ [] → l.self ≡ l.fn.self;
}
