use Rattle.std.proofs.Common.{◌∙◌, ap, refl, sym}
use Rattle.rangemap_core.specs.engine.Intervals.{goes_past}
use Rattle.rangemap_formats.proofs.ReadingLemmas.{empty_between}
use Rattle.rangemap_formats.proofs.json.reading.read_entry.Goals as goal

pub returns-in_default-between-clause-err : goal.returns-in_default-between-clause-err
returns-in_default-between-clause-err g c = (
  refl,
  (
    c.in-Some.start.now,
    c.in-Some.end.now,
    c.in-Some.value.now,
    c.in-Some.ensures,
    c.in-Ok.key,
    c.in-Ok-key.key,
    c.in-Ok-value.value,
    c.in-Ok.ensures,
    c.in-Ok-key.ensures,
    c.in-Ok-value.ensures,
    empty_between g.S.Kind.Kind.kind g.S.Range.KeyRange.has_end g.met.S.Kind.Kind.interval c.in-Ok.key c.in-Ok-key.key
        (sym (ap (goes_past g.S.Range.KeyRange.has_end) (g.met.S.Kind.Kind.reads.cmp c.in-Ok.key c.in-Ok-key.key)) ∙ (rw c.in_default-between.is at c.between.ensures)),
  ),
)
