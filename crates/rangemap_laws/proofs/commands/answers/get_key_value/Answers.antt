use Rattle.rangemap_laws.proofs.RunLemmas.{found_storable}
use Rattle.rangemap_laws.proofs.commands.answers.get_key_value.Goals as goal

pub clone_pair-requires-clause-stored : goal.clone_pair-requires-clause-stored
clone_pair-requires-clause-stored g c = found_storable g.M.Kind.Kind.kind g.met.M.Kind.Kind.placed g.met.M.Value.Eq.laws (g.M.Container.pairs c.args.map.now) (c.in-Some.range.now, c.in-Some.value.now) c.args.key.now c.known.ensures c.in-Some.ensures
