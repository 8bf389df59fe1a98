use Rattle.std.proofs.Common.{arith, ap, false, refl, sym, true≢false, ◌≡◌, ◌∙◌}
use Rattle.std.specs.Ordering.{nat_cmp}
use Rattle.rangemap.specs.Ranges.{half_open}
use Rattle.rangemap.proofs.Loops.{LendsPairs, lends_again}
use Rattle.rangemap.proofs.NumberKinds.{half_open_unsigned, placed_half_open}
use Rattle.rangemap.proofs.NumberLemmas.{forward}
use Rattle.rangemap.proofs.PairLoopLemmas.{item_is_stored, value_from_items}
use Rattle.examples.specs.MemoryMap.{IsBoth, is_both}
use Rattle.examples.proofs.memory_map.MemoryMap.has_writable_code.Goals as goal

pub returns-then-region-2 : goal.returns-then-region-2
returns-then-region-2 c =
    let lends : LendsPairs c.args.self.now.regions c.loop-region.yielded c.next.result = search lends_again in
    let stored = item_is_stored placed_half_open _ c.args.self.now.regions c.iter-region-items.ensures.canonical lends c.in-Some.is in
    let range = c.in-Some.field-0-0.now in
    let both : IsBoth c.args.self.now.regions = record {
      at = range.start;
      region = c.in-Some.region.now;
      is = stored.value range.start tt (half_open_unsigned.holds range range.start (omega arith) (forward half_open_unsigned range stored.range));
      both = grind (arith, c.if-region.true, c.if-region-2.true);
    } in
    (λ _. both, λ _. refl)

pub returns : goal.returns
returns c =
    let each = value_from_items (half_open nat_cmp) c.args.self.now.regions (λ pair. is_both pair.1 ≡ false) (search lends_again) c.loop-region.invariant c.in-None.is in (
      λ no. absurd (true≢false (sym no)),
      λ both.
          let one = each both.at both.region both.is in
          absurd (true≢false (sym both.both ∙ (sym (ap is_both one.is) ∙ one.kept))),
    )
