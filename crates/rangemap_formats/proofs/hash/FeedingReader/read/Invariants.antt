use Rattle.std.proofs.Common.{length, ◌≡◌, fold, flat_map}
use Rattle.rangemap_core.specs.Hashes.{pair_fed}
use Rattle.rangemap_formats.proofs.hash.FeedingReader.read.Given as goal

-- what is left, fed from here on, makes what all pairs do
abbrev pub invariant-pairs : goal.invariant-pairs
invariant-pairs g l =
    let each = pair_fed g.Q.Kind.kind g.R.Key.Hash.hash_input g.V.Hash.hash_input in
    fold g.H.Hasher.write l.state (flat_map each (g.C.Cursor.left l.rest)) ≡ fold g.H.Hasher.write l.initial.state (flat_map each (g.C.Cursor.left l.fn.pairs))

abbrev pub decreases-pairs : goal.decreases-pairs
decreases-pairs g l = length (g.C.Cursor.left l.rest)
