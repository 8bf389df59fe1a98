use Rattle.std.proofs.lemmas.Result.{on_ok_weaker}
use Rattle.rangemap_laws.proofs.EqualityLemmas.{erase_by_clone}
use Rattle.rangemap_laws.proofs.clones.remove_clone.Goals as goal

pub returns-clause-ok : goal.returns-clause-ok
returns-clause-ok g c =
    on_ok_weaker c.remove.result
    (erase_by_clone g.M.Kind.Kind.kind g.met.M.Kind.Kind.placed g.met.M.Value.Eq.laws (g.M.Container.pairs c.args.map.now) (g.M.Container.pairs c.remove.new.self) c.args.range.now c.in_ok-part.field-0 c.known_ends.ensures c.requires.non_empty c.in_ok-part.ensures.ok)
    c.remove.ensures.ok
