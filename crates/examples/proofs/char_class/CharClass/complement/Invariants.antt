use Rattle.rangemap.proofs.SetCallerLemmas.{AreInserted}
use Rattle.examples.specs.CharClass.{characters}
use Rattle.examples.proofs.char_class.CharClass.complement.Given as goal

-- the class has the characters of the gaps so far
abbrev pub invariant-loop-gap : goal.invariant-loop-gap
invariant-loop-gap l = AreInserted characters l.yielded l.members
