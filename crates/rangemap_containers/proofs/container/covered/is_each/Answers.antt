use Rattle.std.proofs.Common.{◌↔◌, IsTrue, false, not, subst, sym}
use Rattle.rangemap_core.specs.Sets.{IsEach, ranges}
use Rattle.rangemap_containers.proofs.CoveredLemmas.{free_by_overlaps}
use Rattle.rangemap_containers.proofs.container.covered.is_each.Goals as goal

pub returns-else-covered : goal.returns-else-covered
returns-else-covered g c =
    let k = g.S.Kind.Kind.kind in
    let list = g.S.Store.pairs c.args.stored.now in
    let q = c.args.range.now in
    subst (λ b. IsTrue (not c.read_overlapping.result) ↔ IsEach k b (k.holds q) (ranges list)) (sym c.if-covered.false)
    (subst (λ b. IsTrue (not b) ↔ IsEach k false (k.holds q) (ranges list)) (sym c.read_overlapping.ensures)
    (free_by_overlaps g.met.S.Kind.Kind.placed g.S.Value.PartialEq.eq list c.known.ensures q c.requires))
