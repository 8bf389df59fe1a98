use Rattle.std.proofs.Common.{ap, refl, rules, sym, true≢false, ◌≢◌, ◌∙◌, ℕ}
use Rattle.std.specs.Ordering.{nat_cmp}
use Rattle.std.specs.declared.ops.Range.{Range}
use Rattle.rangemap.specs.Ranges.{half_open, overlapped}
use Rattle.rangemap.proofs.LoopLemmas.{value_from_met_items}
use Rattle.rangemap.proofs.Loops.{LendsPairs, lends_again}
use Rattle.rangemap.proofs.NumberKinds.{half_open_storable, half_open_unsigned, placed_half_open, unsigned}
use Rattle.rangemap.proofs.PairLoopLemmas.{IsAsked, met_item_is_stored}
use Rattle.examples.specs.MemoryMap.{IsShown}
use Rattle.examples.proofs.memory_map.MemoryMap.shows.Goals as goal
use Rattle.examples.specs.contracts.memory_map.RegionPartialEq as region
use Rattle.examples.specs.declared.memory_map.Region.{Region}

pub returns-then-region-file : goal.returns-then-region-file
returns-then-region-file c =
    let query : Range ℕ = record { start = c.args.start; end = c.args.end } in
    let asked : IsAsked (half_open nat_cmp) region.TheImpl.ghosts.eq c.args.self.now.regions query = record { canonical = c.known.ensures; storable = half_open_storable unsigned query c.requires } in
    let lends : LendsPairs (overlapped (half_open nat_cmp) c.args.self.now.regions query) c.loop-region.yielded c.next.result = search lends_again in
    let one = met_item_is_stored placed_half_open asked lends c.in-Some.is in
    let shown : IsShown c.args.self.now.regions c.args.start c.args.end c.args.file = record {
      at = one.at;
      from = half_open_unsigned.from query one.at one.asked;
      to = half_open_unsigned.to query one.at one.asked;
      region = c.in-Some.region.now;
      is = one.stored.value one.at tt one.holds;
      shows = search rules;
    } in
    (λ _. shown, λ _. refl)

pub returns : goal.returns
returns c =
    let query : Range ℕ = record { start = c.args.start; end = c.args.end } in
    let asked : IsAsked (half_open nat_cmp) region.TheImpl.ghosts.eq c.args.self.now.regions query = record { canonical = c.known.ensures; storable = half_open_storable unsigned query c.requires } in
    let each = value_from_met_items placed_half_open asked (λ pair. pair.1.file ≢ c.args.file) (search lends_again) c.loop-region.invariant c.in-None.is in (
      λ no. absurd (true≢false (sym no)),
      λ there.
          let one = each there.at tt (half_open_unsigned.holds query there.at there.from there.to) there.region there.is in
          absurd (one.kept (ap (λ (r : Region). r.file) one.is ∙ there.shows)),
    )
