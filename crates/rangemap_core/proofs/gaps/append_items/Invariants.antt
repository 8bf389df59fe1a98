use Rattle.std.proofs.Common.{◌≡◌, ◌++◌, List, Ok, map}
use Rattle.rangemap_core.proofs.gaps.append_items.Given as goal

abbrev pub invariant-loop-gap : goal.invariant-loop-gap
invariant-loop-gap g l = (items : List _) × (l.yielded ≡ map Ok items) × (l.out.items ≡ l.fn.out.items ++ items)
