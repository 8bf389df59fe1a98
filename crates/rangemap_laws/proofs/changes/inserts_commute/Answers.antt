use Rattle.std.proofs.lemmas.Result.{on_ok_weaker}
use Rattle.rangemap_core.specs.Ranges.{override, value_at}
use Rattle.rangemap_core.proofs.CanonLemmas.{override_of}
use Rattle.rangemap_laws.proofs.EqualityLemmas.{equal_after_both}
use Rattle.rangemap_laws.proofs.changes.inserts_commute.Goals as goal

pub returns-clause-forth : goal.returns-clause-forth
returns-clause-forth g c =
    let k = g.M.Kind.Kind.kind in
    on_ok_weaker c.insert_clone-4.result
    (λ last. override_of k g.met.M.Value.Eq.laws (override k (value_at k (g.M.Container.pairs c.args.forth.now)) c.args.first.0.now c.args.first.1.now) c.args.second.0.now (g.M.Container.pairs c.insert_clone.new.map) (g.M.Container.pairs c.insert_clone-2.new.map) c.in_ok-insert_clone.ensures.ok c.args.second.1.now c.in_ok-insert_clone-2.ensures.ok)
    c.insert_clone-4.ensures.ok

pub returns-clause-back : goal.returns-clause-back
returns-clause-back g c =
    let k = g.M.Kind.Kind.kind in
    on_ok_weaker c.insert_clone-4.result
    (λ last. override_of k g.met.M.Value.Eq.laws (override k (value_at k (g.M.Container.pairs c.args.back.now)) c.args.second.0.now c.args.second.1.now) c.args.first.0.now (g.M.Container.pairs c.insert_clone-3.new.map) (g.M.Container.pairs c.insert_clone-4.new.map) c.in_ok-insert_clone-3.ensures.ok c.args.first.1.now last)
    c.insert_clone-4.ensures.ok

pub returns-clause-equal : goal.returns-clause-equal
returns-clause-equal g c =
    let k = g.M.Kind.Kind.kind in
    let e = g.met.M.Value.Eq.laws in
    let r = c.args.first.0.now in
    let v = c.args.first.1.now in
    let s = c.args.second.0.now in
    let w = c.args.second.1.now in
    on_ok_weaker c.insert_clone-4.result
    (λ last. equal_after_both k g.met.M.Kind.Kind.placed e (g.M.Container.pairs c.args.forth.now) (g.M.Container.pairs c.args.back.now) c.insert_clone.ensures.before c.insert_clone-3.ensures.before c.requires.equal (g.M.Container.pairs c.insert_clone-2.new.map) (g.M.Container.pairs c.insert_clone-4.new.map) r v s w c.requires.no_common_point
    (override_of k e (override k (value_at k (g.M.Container.pairs c.args.forth.now)) r v) s (g.M.Container.pairs c.insert_clone.new.map) (g.M.Container.pairs c.insert_clone-2.new.map) c.in_ok-insert_clone.ensures.ok w c.in_ok-insert_clone-2.ensures.ok)
    (override_of k e (override k (value_at k (g.M.Container.pairs c.args.back.now)) s w) r (g.M.Container.pairs c.insert_clone-3.new.map) (g.M.Container.pairs c.insert_clone-4.new.map) c.in_ok-insert_clone-3.ensures.ok v last))
    c.insert_clone-4.ensures.ok
