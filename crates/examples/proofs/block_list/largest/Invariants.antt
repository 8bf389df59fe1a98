use Rattle.std.proofs.Common.{◌≡◌, ◌+◌, ◌≤◌}
use Rattle.examples.specs.BlockList.{IsBlock, size_of}
use Rattle.examples.proofs.block_list.largest.Given as goal

-- the block so far fits
abbrev pub invariant-wider : goal.invariant-wider
invariant-wider l = (l.size ≡ size_of l.prefix) × IsBlock (record { first = l.at; prefix = l.prefix }) × (l.at + l.size ≤ l.end)

abbrev pub decreases-wider : goal.decreases-wider
decreases-wider l = l.prefix
