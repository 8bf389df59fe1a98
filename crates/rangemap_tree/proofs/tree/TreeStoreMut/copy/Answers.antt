use Rattle.std.proofs.Common.{◌≡◌, true}
use Rattle.rangemap_core.specs.engine.EndpointKinds.{half_open_placed}
use Rattle.rangemap_core.specs.Ranges.{half_open, IsCanonOf, same_pairs, value_at}
use Rattle.rangemap_core.proofs.EqualListLemmas.{copy_is_canon}
use Rattle.rangemap_tree.proofs.CloneLemmas.{cloned_same, cloned_storable}
use Rattle.rangemap_tree.proofs.tree.TreeStoreMut.copy.Goals as goal

same : (g : _) (c : goal.In_ok-pairs g) → same_pairs (half_open g.K.Ord.cmp) g.V.PartialEq.eq c.self.inside.pairs c.in_ok-pairs.pairs ≡ true
same g c = cloned_same g.K.Clone.is_clone g.V.Clone.is_clone g.met.K.Ord.total c.requires.faithful_keys g.V.PartialEq.eq c.requires.faithful_values c.self.inside.pairs c.in_ok-pairs.pairs c.in_ok-pairs.ensures

canon : (g : _) (c : goal.In_ok-pairs g) → IsCanonOf (half_open g.K.Ord.cmp) g.V.PartialEq.eq (value_at (half_open g.K.Ord.cmp) c.self.inside.pairs) c.in_ok-pairs.pairs
canon g c = copy_is_canon (half_open g.K.Ord.cmp) (half_open_placed g.met.K.Ord.total) g.V.PartialEq.eq g.met.V.Eq.laws c.self.inside.pairs c.in_ok-pairs.pairs c.self.invariant
    (cloned_storable g.K.Clone.is_clone g.V.Clone.is_clone g.met.K.Ord.total c.requires.faithful_keys g.V.PartialEq.eq c.self.inside.pairs c.in_ok-pairs.pairs c.self.invariant c.in_ok-pairs.ensures) (same g c)

pub invariant_of-result : goal.invariant_of-result
invariant_of-result g c = (canon g c).canonical

pub returns-clause-same : goal.returns-clause-same
returns-clause-same g c = rw (← c.self.view_is) (same g c)

pub returns-clause-canon : goal.returns-clause-canon
returns-clause-canon g c = rw (← c.self.view_is) (canon g c)
