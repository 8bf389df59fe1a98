use Rattle.std.proofs.Common.{◌∙◌, sym, ap, Some, None, cond, is_lt}
use Rattle.std.specs.declared.ops.Range.{Range}
use Rattle.rangemap_core.specs.Ranges.{covering, half_open}
use Rattle.rangemap_tree.proofs.ChangeLemmas.{looked, looked_none}
use Rattle.rangemap_tree.proofs.tree.TreeStore.covering.Goals as goal

pub returns-then-is_lt : goal.returns-then-is_lt
returns-then-is_lt g c =
    let p : Range g.row.K.Denot × g.row.V.Denot = (c.in_ok-range.range.now, c.in_ok-range.value.now) in
    sym (looked g.met.K.Ord.total g.V.PartialEq.eq g.met.V.Eq.laws c.self.inside.pairs c.self.invariant c.args.key.now c.in_ok-range.ensures.0 p c.in_ok-range.ensures.1 ∙ ap (λ b. cond b (Some p) None) (ap is_lt (sym c.cmp.ensures) ∙ sym c.is_lt.ensures ∙ c.if-is_lt.true))
    ∙ ap (λ pairs. covering (half_open g.K.Ord.cmp) pairs c.args.key.now) c.self.view_is

pub returns-else-is_lt : goal.returns-else-is_lt
returns-else-is_lt g c =
    let p : Range g.row.K.Denot × g.row.V.Denot = (c.in_ok-range.range.now, c.in_ok-range.value.now) in
    sym (looked g.met.K.Ord.total g.V.PartialEq.eq g.met.V.Eq.laws c.self.inside.pairs c.self.invariant c.args.key.now c.in_ok-range.ensures.0 p c.in_ok-range.ensures.1 ∙ ap (λ b. cond b (Some p) None) (ap is_lt (sym c.cmp.ensures) ∙ sym c.is_lt.ensures ∙ c.if-is_lt.false))
    ∙ ap (λ pairs. covering (half_open g.K.Ord.cmp) pairs c.args.key.now) c.self.view_is

pub returns-in_err-range : goal.returns-in_err-range
returns-in_err-range g c = rw c.from_residual.ensures (sym (looked_none g.met.K.Ord.total g.V.PartialEq.eq g.met.V.Eq.laws c.self.inside.pairs c.self.invariant c.args.key.now c.in_err-range.ensures.1.0) ∙ ap (λ pairs. covering (half_open g.K.Ord.cmp) pairs c.args.key.now) c.self.view_is)
