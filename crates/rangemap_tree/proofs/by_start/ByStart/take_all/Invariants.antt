use Rattle.std.proofs.Common.{◌≡◌, length}
use Rattle.rangemap_tree.specs.Starts.{without_all}
use Rattle.rangemap_tree.proofs.by_start.ByStart.take_all.Given as goal

-- without those at the keys from here on, the pairs are what they are without those at all keys from the start
abbrev pub invariant-keys : goal.invariant-keys
invariant-keys g l = without_all g.K.Ord.cmp l.rest l.self ≡ without_all g.K.Ord.cmp l.keys l.fn.self

abbrev pub decreases-keys : goal.decreases-keys
decreases-keys g l = length l.rest
