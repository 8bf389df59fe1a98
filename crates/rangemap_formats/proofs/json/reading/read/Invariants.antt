use Rattle.std.proofs.Common.{take}
use Rattle.rangemap_formats.specs.Json.{IsInserted}
use Rattle.rangemap_formats.proofs.json.reading.read.Given as goal

abbrev pub invariant-loop-at : goal.invariant-loop-at
invariant-loop-at g l = IsInserted g.S.Kind.Kind.kind (g.R.ReadsParts.reader l.reader) g.S.Value.PartialEq.eq l.form (take l.at l.entry-items) (g.S.Store.pairs l.all)
