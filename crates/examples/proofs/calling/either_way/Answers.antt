use Rattle.std.proofs.Common.{arith, ◌∙◌}
use Rattle.std.proofs.lemmas.Bool.Decides.{nat_tests}
use Rattle.std.specs.Cmp.{nat_eq_equiv}
use Rattle.rangemap.proofs.CallerLemmas.{equal_where_same, value_of}
use Rattle.rangemap.proofs.NumberKinds.{placed_below}
use Rattle.rangemap.proofs.NumberLemmas.{same_number}
use Rattle.examples.proofs.calling.either_way.Goals as goal

pub returns-clause-equal : goal.returns-clause-equal
returns-clause-equal c =
    c.eq.ensures
    ∙ equal_where_same (placed_below 256) nat_eq_equiv _ _ c.in_ok-insert-2.ensures.ok.canonical c.in_ok-insert-4.ensures.ok.canonical
    (λ x key. grind (arith, nat_tests, c.requires, value_of same_number c.in_ok-insert-2.ensures.ok x key, value_of same_number c.in_ok-insert.ensures.ok x key, value_of same_number c.in_ok-insert-4.ensures.ok x key, value_of same_number c.in_ok-insert-3.ensures.ok x key))

pub returns-clause-inserted : goal.returns-clause-inserted
returns-clause-inserted c = λ key below. grind (arith, nat_tests, value_of same_number c.in_ok-insert-2.ensures.ok key (omega arith), value_of same_number c.in_ok-insert.ensures.ok key (omega arith))

pub returns-clause-in_either : goal.returns-clause-in_either
returns-clause-in_either c = λ key below. grind (arith, nat_tests, value_of same_number c.in_ok-insert-4.ensures.ok key (omega arith))
