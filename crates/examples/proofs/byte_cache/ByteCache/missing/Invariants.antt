use Rattle.std.proofs.Common.{◌≡◌, map, Ok}
use Rattle.examples.proofs.byte_cache.ByteCache.missing.Given as goal

abbrev pub invariant-loop-gap : goal.invariant-loop-gap
invariant-loop-gap l = l.yielded ≡ map Ok l.parts.items
