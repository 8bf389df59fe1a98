use Rattle.std.proofs.Common.{List, subst, sym, true≢false}
use Rattle.rangemap_core.specs.Ranges.{IsCanonOf, override_all, value_at}
use Rattle.rangemap_maps.proofs.range_map.Map.from_items.Goals as goal

pub returns-clause-items : goal.returns-clause-items
returns-clause-items g c =
    let ran = c.in_ok-extend.ensures.items in
    (ran.0, ran.1, ran.2, ran.4, subst (λ (xs : List (g.row.S-Range.Denot × g.row.S-Value.Denot)). IsCanonOf g.S.Kind.Kind.kind g.S.Value.PartialEq.eq (override_all g.S.Kind.Kind.kind (value_at g.S.Kind.Kind.kind xs) ran.1) c.extend.new.self) c.new_with_step_fns-all.ensures ran.3)

pub returns-in_err-extend-clause-of_nothing : goal.returns-in_err-extend-clause-of_nothing
returns-in_err-extend-clause-of_nothing g c = λ none. absurd (true≢false (sym (c.in_err-extend.ensures.of_nothing none).0))
