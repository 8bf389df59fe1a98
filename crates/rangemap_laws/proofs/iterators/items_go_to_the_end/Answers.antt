use Rattle.rangemap_laws.proofs.EndLemmas.{first_taken, last_taken, range_given, range_tried}
use Rattle.rangemap_laws.proofs.iterators.items_go_to_the_end.Goals as goal

pub returns-clause-first : goal.returns-clause-first
returns-clause-first g c = first_taken

pub returns-clause-last : goal.returns-clause-last
returns-clause-last g c = last_taken

pub returns-clause-given : goal.returns-clause-given
returns-clause-given g c = λ before answer after given. range_given g.Q.Kind.kind before answer after given.0

pub returns-clause-tried : goal.returns-clause-tried
returns-clause-tried g c = range_tried g.Q.Kind.kind
