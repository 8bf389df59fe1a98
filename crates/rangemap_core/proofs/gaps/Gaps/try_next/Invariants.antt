use Rattle.std.proofs.Common.{◌≡◌, ◌++◌, false, length, option_map, option_to_list}
use Rattle.rangemap_core.specs.engine.Endpoints.{endpoint_of, gaps_from}
use Rattle.rangemap_core.specs.Shown.{shown}
use Rattle.rangemap_core.proofs.gaps.Gaps.try_next.Given as goal

abbrev pub invariant-passed : goal.invariant-passed
invariant-passed g l = record {
  left : gaps_from g.Q.Kind.kind g.Q.Kind.end_place g.Q.Kind.part_of (endpoint_of l.self-inside.from) l.self-inside.outer_range.now (option_to_list (option_map (shown g.C.Cursor.given g.C.Cursor.given_value) l.self-inside.refused) ++ g.C.Cursor.left l.self-inside.pairs) ≡ l.fn.self;
  goes_on : l.self-inside.is_done ≡ false;
}

abbrev pub decreases-passed : goal.decreases-passed
decreases-passed g l = length (option_to_list (option_map (shown g.C.Cursor.given g.C.Cursor.given_value) l.self-inside.refused) ++ g.C.Cursor.left l.self-inside.pairs)
