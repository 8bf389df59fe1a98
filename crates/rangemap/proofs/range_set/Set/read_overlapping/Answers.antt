use Rattle.std.proofs.Common.{sym, subst}
use Rattle.rangemap_core.specs.Ranges.{overlapped}
use Rattle.rangemap.proofs.MapLemmas.{pairs_are}
use Rattle.rangemap.proofs.range_set.Set.read_overlapping.Goals as goal

pub read_overlapping-requires : goal.read_overlapping-requires
read_overlapping-requires g c = subst (λ pairs. g.U.Reader.may_read (overlapped g.S.Kind.Kind.kind pairs c.args.range.now) c.args.state.now) (sym (pairs_are g.S.Kind.Kind.kind _ _ c.self.view_is)) c.requires

pub returns : goal.returns
returns g c = subst (λ pairs. g.U.Reader.reads (overlapped g.S.Kind.Kind.kind pairs c.args.range.now) c.args.state.now c.read_overlapping.result c.read_overlapping.new.state) (pairs_are g.S.Kind.Kind.kind _ _ c.self.view_is) c.read_overlapping.ensures
