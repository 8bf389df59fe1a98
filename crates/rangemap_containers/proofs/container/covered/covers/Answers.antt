use Rattle.std.proofs.Common.{◌↔◌, IsTrue, subst, sym}
use Rattle.rangemap_core.specs.Sets.{AreCovered, ranges}
use Rattle.rangemap_containers.proofs.CoveredLemmas.{covered_by_gaps_from}
use Rattle.rangemap_containers.proofs.container.covered.covers.Goals as goal

pub returns : goal.returns
returns g c =
    let k = g.S.Kind.Kind.kind in
    let list = g.S.Store.pairs c.args.stored.now in
    let q = c.args.range.now in
    subst (λ b. IsTrue b ↔ AreCovered k (k.holds q) (ranges list)) (sym c.read_overlapping.ensures)
    (covered_by_gaps_from g.met.S.Kind.Kind.placed g.S.Value.PartialEq.eq list c.known.ensures q c.known_ends.ensures)
