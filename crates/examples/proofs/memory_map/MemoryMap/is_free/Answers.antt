use Rattle.std.proofs.Common.{ap, not, sym, true≢false, ◌∙◌, ◌≡◌, ℕ, Bool, true, false, refl}
use Rattle.std.specs.declared.ops.Range.{Range}
use Rattle.rangemap.proofs.NumberKinds.{half_open_storable, half_open_unsigned, unsigned}
use Rattle.rangemap.proofs.NumberLemmas.{free_by_overlaps}
use Rattle.rangemap.proofs.OverlapLemmas.{apart_where_free}
use Rattle.examples.proofs.memory_map.MemoryMap.is_free.Goals as goal

not_true : (b : Bool) → not b ≡ true → b ≡ false
not_true true h = absurd (true≢false (sym h))
not_true false h = refl

pub returns : goal.returns
returns c =
    let range : Range ℕ = record { start = c.args.start; end = c.args.end } in
    let asked = half_open_storable unsigned range c.requires in (
      λ yes. free_by_overlaps half_open_unsigned _ c.args.self.now.regions c.overlaps.ensures.canonical range asked (sym c.overlaps.ensures.any ∙ not_true c.overlaps.result yes),
      λ free. ap not (c.overlaps.ensures.any ∙ apart_where_free half_open_unsigned _ c.args.self.now.regions c.overlaps.ensures.canonical range asked free),
    )
