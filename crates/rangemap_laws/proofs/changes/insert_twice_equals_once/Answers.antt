use Rattle.std.proofs.lemmas.Result.{on_ok_weaker}
use Rattle.rangemap_laws.proofs.EqualityLemmas.{equal_after_twice}
use Rattle.rangemap_laws.proofs.changes.insert_twice_equals_once.Goals as goal

pub returns-clause-equal : goal.returns-clause-equal
returns-clause-equal g c =
    on_ok_weaker c.insert_clone-3.result
    (equal_after_twice g.M.Kind.Kind.kind g.met.M.Kind.Kind.placed g.met.M.Value.Eq.laws (g.M.Container.pairs c.args.once.now) (g.M.Container.pairs c.args.twice.now) c.insert_clone.ensures.before c.insert_clone-2.ensures.before c.requires.equal
    (g.M.Container.pairs c.insert_clone.new.map) (g.M.Container.pairs c.insert_clone-3.new.map) c.args.range.now c.args.value.now (g.M.Container.pairs c.insert_clone-2.new.map) c.in_ok-insert_clone.ensures.ok c.in_ok-insert_clone-2.ensures.ok)
    c.insert_clone-3.ensures.ok
