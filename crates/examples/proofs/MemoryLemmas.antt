-- Regions of memory that are equal are the same one.
use Rattle.std.proofs.Common.{rules, ◌≡◌, true}
use Rattle.examples.specs.contracts.memory_map.RegionPartialEq as region
use Rattle.examples.specs.declared.memory_map.Region.{Region}

pub same_region : (v w : Region) → region.TheImpl.ghosts.eq v w ≡ true → v ≡ w
same_region v w h = search rules
