-- Which handler a line has.
use Rattle.std.specs.Prelude.{◌≡◌, ℕ, ◌≤◌, List, Option, None}
use Rattle.std.specs.Ordering.{nat_cmp}
use Rattle.std.specs.declared.ops.Range.{Range}
use Rattle.rangemap.specs.Ranges.{half_open, value_at}

-- the handler of a line, by the stored ranges
abbrev pub handler_of : List (Range ℕ × ℕ) → ℕ → Option ℕ
handler_of list = value_at (half_open nat_cmp) list

-- no line from `count` on has a handler
abbrev pub IsWithin : ℕ → List (Range ℕ × ℕ) → Type 0
IsWithin count list = (line : ℕ) → count ≤ line → handler_of list line ≡ None
