use Rattle.std.proofs.Common.{arith, sym}
use Rattle.std.proofs.lemmas.Bool.Decides.{nat_tests}
use Rattle.std.specs.Cmp.{nat_eq_equiv}
use Rattle.rangemap.proofs.CallerLemmas.{value_of}
use Rattle.rangemap.proofs.NumberKinds.{half_open_unsigned}
use Rattle.rangemap.proofs.NumberLemmas.{run_found, same_number}
use Rattle.examples.proofs.rota.Rota.swap.Goals as goal

pub insert-requires-clause-non_empty : goal.insert-requires-clause-non_empty
insert-requires-clause-non_empty c = (run_found half_open_unsigned nat_eq_equiv.symm c.args.self.now.shifts c.in-Some.ensures.canonical tt c.in-Some.ensures.found).stored.non_empty

pub insert-requires-2-clause-non_empty : goal.insert-requires-2-clause-non_empty
insert-requires-2-clause-non_empty c = (run_found half_open_unsigned nat_eq_equiv.symm c.args.self.now.shifts c.in-Some-get_key_value.ensures.canonical tt c.in-Some-get_key_value.ensures.found).stored.non_empty

pub returns-clause-swapped : goal.returns-clause-swapped
returns-clause-swapped c = λ done. record {
  one = (c.in-Some.one.now, c.in-Some.alice.now);
  other = (c.in-Some-get_key_value.other.now, c.in-Some-get_key_value.bob.now);
  has_first = sym c.in-Some.ensures.found;
  has_second = sym c.in-Some-get_key_value.ensures.found;
  after = λ hour. grind (arith, nat_tests, value_of same_number c.in_ok-insert-2.ensures.ok hour tt, value_of same_number c.in_ok-insert.ensures.ok hour tt, value_of same_number c.in_ok-swapped.ensures.canon hour tt);
}
