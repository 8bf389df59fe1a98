use Rattle.std.proofs.lemmas.Result.{on_ok_weaker}
use Rattle.rangemap_laws.proofs.EqualityLemmas.{override_by_clone}
use Rattle.rangemap_laws.proofs.clones.insert_clone.Goals as goal

pub returns-clause-ok : goal.returns-clause-ok
returns-clause-ok g c =
    let copy = c.in_ok-range in
    on_ok_weaker c.insert.result
    (override_by_clone g.M.Kind.Kind.kind g.met.M.Kind.Kind.placed g.met.M.Value.Eq.laws (g.M.Container.pairs c.args.map.now) (g.M.Container.pairs c.insert.new.self) (c.args.range.now, c.args.value.now) (copy.range, copy.value) c.known_ends.ensures c.requires.non_empty copy.ensures.storable copy.ensures.same)
    c.insert.ensures.ok
