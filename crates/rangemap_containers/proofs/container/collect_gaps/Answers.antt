use Rattle.std.proofs.Common.{map}
use Rattle.rangemap_core.proofs.AppendLemmas.{gaps_alone}
use Rattle.rangemap_containers.proofs.container.collect_gaps.Goals as goal

pub returns-clause-ok : goal.returns-clause-ok
returns-clause-ok g c =
    gaps_alone g.M.Kind.Kind.kind (map (λ pair. pair.0) (g.M.Container.pairs c.args.container.now)) c.args.outer_range.now c.new-gaps.result.items c.append_gaps.new.out.items c.new-gaps.ensures.items c.in_ok-append_gaps.ensures.ok
