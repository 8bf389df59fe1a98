use Rattle.std.proofs.lemmas.Result.{IfOk-weaker}
use Rattle.rangemap_laws.proofs.GapLemmas.{parted}
use Rattle.rangemap_laws.proofs.gaps.gaps_and_covered_keys_make_up_a_range.Goals as goal

pub returns-clause-parted : goal.returns-clause-parted
returns-clause-parted g c = IfOk-weaker c.collect_gaps.result _ _ (λ gaps are. parted g.met.M.Kind.Kind.placed (g.M.Container.pairs c.args.stored.now) gaps.items c.args.outer_range.now are) c.collect_gaps.ensures.ok
