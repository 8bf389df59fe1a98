use Rattle.std.proofs.lemmas.Result.{on_ok_weaker}
use Rattle.rangemap_laws.proofs.EqualityLemmas.{equal_after_remove}
use Rattle.rangemap_laws.proofs.changes.remove_after_insert_equals_remove.Goals as goal

pub returns-clause-equal : goal.returns-clause-equal
returns-clause-equal g c =
    let pairs = g.M.Container.pairs in
    on_ok_weaker c.remove_clone-2.result
    (equal_after_remove g.M.Kind.Kind.kind g.met.M.Kind.Kind.placed g.met.M.Value.Eq.laws (pairs c.args.changed.now) (pairs c.args.removed.now) c.insert_clone.ensures.before c.remove_clone-2.ensures.before c.requires.equal (pairs c.remove_clone.new.map) (pairs c.remove_clone-2.new.map) c.args.range.now c.args.value.now
    (pairs c.insert_clone.new.map) c.in_ok-insert_clone.ensures.ok c.in_ok-remove_clone.ensures.ok)
    c.remove_clone-2.ensures.ok
