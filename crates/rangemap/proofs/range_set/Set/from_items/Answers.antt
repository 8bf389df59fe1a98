use Rattle.std.proofs.Common.{sym, true≢false}
use Rattle.rangemap.proofs.range_set.Set.from_items.Goals as goal

pub returns-in_err-extend-clause-of_nothing : goal.returns-in_err-extend-clause-of_nothing
returns-in_err-extend-clause-of_nothing g c = λ none. absurd (true≢false (sym (c.in_err-extend.ensures.of_nothing none).0))
