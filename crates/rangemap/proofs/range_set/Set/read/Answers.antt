use Rattle.std.proofs.Common.{sym, subst}
use Rattle.rangemap.proofs.MapLemmas.{pairs_are}
use Rattle.rangemap.proofs.range_set.Set.read.Goals as goal

pub read-requires : goal.read-requires
read-requires g c = subst (λ pairs. g.U.Reader.may_read pairs c.args.state.now) (sym (pairs_are g.S.Kind.Kind.kind _ _ c.self.view_is)) c.requires

pub returns : goal.returns
returns g c = subst (λ pairs. g.U.Reader.reads pairs c.args.state.now c.read.result c.read.new.state) (pairs_are g.S.Kind.Kind.kind _ _ c.self.view_is) c.read.ensures
