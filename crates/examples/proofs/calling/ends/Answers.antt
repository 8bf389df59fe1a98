use Rattle.std.proofs.Common.{arith}
use Rattle.std.proofs.lemmas.Bool.Decides.{nat_tests}
use Rattle.rangemap.proofs.CallerLemmas.{value_of}
use Rattle.rangemap.proofs.NumberLemmas.{same_number}
use Rattle.examples.proofs.calling.ends.Goals as goal

pub returns-clause-at_0 : goal.returns-clause-at_0
returns-clause-at_0 c = grind (arith, nat_tests, value_of same_number c.in_ok-insert-3.ensures.ok 0 (omega arith), value_of same_number c.in_ok-insert-2.ensures.ok 0 (omega arith), value_of same_number c.in_ok-insert.ensures.ok 0 (omega arith))

pub returns-clause-at_6 : goal.returns-clause-at_6
returns-clause-at_6 c = grind (arith, nat_tests, value_of same_number c.in_ok-insert-3.ensures.ok 6 (omega arith), value_of same_number c.in_ok-insert-2.ensures.ok 6 (omega arith), value_of same_number c.in_ok-insert.ensures.ok 6 (omega arith))

pub returns-clause-at_7 : goal.returns-clause-at_7
returns-clause-at_7 c = grind (arith, nat_tests, value_of same_number c.in_ok-insert-3.ensures.ok 7 (omega arith), value_of same_number c.in_ok-insert-2.ensures.ok 7 (omega arith), value_of same_number c.in_ok-insert.ensures.ok 7 (omega arith))

pub returns-clause-at_10 : goal.returns-clause-at_10
returns-clause-at_10 c = grind (arith, nat_tests, value_of same_number c.in_ok-insert-3.ensures.ok 10 (omega arith), value_of same_number c.in_ok-insert-2.ensures.ok 10 (omega arith), value_of same_number c.in_ok-insert.ensures.ok 10 (omega arith))

pub returns-clause-at_11 : goal.returns-clause-at_11
returns-clause-at_11 c = grind (arith, nat_tests, value_of same_number c.in_ok-insert-3.ensures.ok 11 (omega arith), value_of same_number c.in_ok-insert-2.ensures.ok 11 (omega arith), value_of same_number c.in_ok-insert.ensures.ok 11 (omega arith))

pub returns-clause-at_255 : goal.returns-clause-at_255
returns-clause-at_255 c = grind (arith, nat_tests, value_of same_number c.in_ok-insert-3.ensures.ok 255 (omega arith), value_of same_number c.in_ok-insert-2.ensures.ok 255 (omega arith), value_of same_number c.in_ok-insert.ensures.ok 255 (omega arith))

pub returns-clause-at_2 : goal.returns-clause-at_2
returns-clause-at_2 c = grind (arith, nat_tests, value_of same_number c.in_ok-insert-3.ensures.ok 2 (omega arith), value_of same_number c.in_ok-insert-2.ensures.ok 2 (omega arith), value_of same_number c.in_ok-insert.ensures.ok 2 (omega arith))

pub returns-clause-at_3 : goal.returns-clause-at_3
returns-clause-at_3 c = grind (arith, nat_tests, value_of same_number c.in_ok-insert-3.ensures.ok 3 (omega arith), value_of same_number c.in_ok-insert-2.ensures.ok 3 (omega arith), value_of same_number c.in_ok-insert.ensures.ok 3 (omega arith))

pub returns-clause-at_199 : goal.returns-clause-at_199
returns-clause-at_199 c = grind (arith, nat_tests, value_of same_number c.in_ok-insert-3.ensures.ok 199 (omega arith), value_of same_number c.in_ok-insert-2.ensures.ok 199 (omega arith), value_of same_number c.in_ok-insert.ensures.ok 199 (omega arith))

pub returns-clause-at_200 : goal.returns-clause-at_200
returns-clause-at_200 c = grind (arith, nat_tests, value_of same_number c.in_ok-insert-3.ensures.ok 200 (omega arith), value_of same_number c.in_ok-insert-2.ensures.ok 200 (omega arith), value_of same_number c.in_ok-insert.ensures.ok 200 (omega arith))
