use Rattle.rangemap_core.specs.Shown.{shown}
use Rattle.rangemap_unions.proofs.CanonicalSetLemmas.{front_of}
use Rattle.rangemap_unions.proofs.ranges.RangesDoubleEndedIterator.next_back.Goals as goal

pub invariant_of-self-2 : goal.invariant_of-self-2
invariant_of-self-2 g c = front_of g.C.Range.KeyRange.read (shown g.C.Cursor.given g.C.Cursor.given_value) _ c.next_back.result _ c.self.invariant c.next_back.ensures.steps
