use Rattle.std.proofs.Common.{◌≤◌, ◌-◌, All}
use Rattle.examples.specs.BlockList.{IsLargest, Tile}
use Rattle.examples.proofs.block_list.split.Given as goal

-- the blocks so far are those of the addresses before `at`
abbrev pub invariant-split : goal.invariant-split
invariant-split l = (l.at ≤ l.end) × Tile l.start l.at l.blocks.items × All (IsLargest l.end) l.blocks.items

abbrev pub decreases-split : goal.decreases-split
decreases-split l = l.end - l.at
