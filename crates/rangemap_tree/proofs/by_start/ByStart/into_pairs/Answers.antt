use Rattle.std.proofs.Common.{◌∙◌, sym, ap}
use Rattle.std.specs.Map.{values_of}
use Rattle.rangemap_tree.specs.Starts.{entries_in}
use Rattle.rangemap_tree.proofs.by_start.ByStart.into_pairs.Goals as goal

pub returns-in-Some : goal.returns-in-Some
returns-in-Some g c = c.over.ensures ∙ c.into_values.ensures.rest ∙ ap (λ tree. values_of (entries_in tree)) (sym c.in-Some.is) ∙ c.self.view_is
