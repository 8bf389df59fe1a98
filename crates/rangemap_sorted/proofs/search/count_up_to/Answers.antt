use Rattle.std.proofs.Common.{arith, ◌≡◌, ◌+◌, ◌-◌, ◌*◌, ◌%◌, ◌^◌, ◌<◌, ◌≤◌, ap, Equal, Greater, is_ge, is_lt, length, Less, not, Ordering, Some, sym, refl, ◌∙◌}
use Rattle.std.proofs.lemmas.Nat.{one_shl}
use Rattle.std.specs.List.{slice_get}
use Rattle.rangemap_core.specs.engine.Shape.{is_up_to}
use Rattle.rangemap_sorted.proofs.HalvingLemmas.{all_asked, first_fails, first_passes, next_fails, next_passes}
use Rattle.rangemap_sorted.proofs.search.count_up_to.Goals.{then-is_ge, else-is_ge}
use Rattle.rangemap_sorted.proofs.search.count_up_to.Goals as goal

not_before : (r : Ordering) → is_ge r ≡ not (is_lt r)
not_before Less = refl
not_before Equal = refl
not_before Greater = refl

pub halves-init : goal.halves-init
halves-init g c =
    let xs = c.args.probe.now.0 in
    let test = is_up_to g.Q.Kind.kind.cmp c.args.key.now in
    let exponent = c.ilog2-exponent.result in
    let whole = 1 * 2 ^ exponent % 18446744073709551616 in
    let power : whole ≡ 2 ^ exponent = one_shl exponent 64 c.ilog2-exponent.ensures.bound in
    let le : whole ≤ length xs = rw power (omega (arith, c.ilog2-exponent.ensures.power_le)) in
    let gt : length xs < 2 * whole = rw power (omega (arith, c.ilog2-exponent.ensures.next_power_gt)) in
    let len : c.len-len.result ≡ length xs = c.len-len.ensures.len in
    let found : slice_get xs (length xs - whole) ≡ Some c.start.result.now = rw (← len) c.start.ensures.start in
    let asked : c.start.new.self.1 ≡ 1 = omega (arith, c.start.ensures.counted, c.requires.fresh) in
    let told : c.is_ge.result ≡ test c.start.result.now = c.is_ge.ensures ∙ ap is_ge (c.cmp.ensures ∙ sym (g.met.R.KeyRange.order _ _) ∙ g.met.Q.Kind.reads.cmp _ _) ∙ not_before _ in
    elim c.if-is_ge.branch [
      | then-is_ge w ↦
          let base : c.if-is_ge.base ≡ length xs - whole + 1 = w.base-is ∙ rw len refl in
          (c.start.ensures.starts, rw (asked, base) (first_passes test xs exponent c.requires.rising whole power le gt c.start.result.now found (sym told ∙ w.if-is_ge.true)))
      | else-is_ge w ↦ (c.start.ensures.starts, rw (asked, w.base-is) (first_fails test xs exponent c.requires.rising whole power le gt c.start.result.now found (sym told ∙ w.if-is_ge.false)))
    ]

pub halves-preserved-then-is_ge-2 : goal.halves-preserved-then-is_ge-2
halves-preserved-then-is_ge-2 g c =
    let i = c.halves.invariant in
    let look = c.start-in-halves in
    let found : slice_get c.args.probe.now.0 (c.halves.base + c.fits.half - 1) ≡ Some look.result.now = rw (← i.0) look.ensures.start in
    let told : c.is_ge-in-halves.result ≡ is_up_to g.Q.Kind.kind.cmp c.args.key.now look.result.now = c.is_ge-in-halves.ensures ∙ ap is_ge (c.cmp-in-halves.ensures ∙ sym (g.met.R.KeyRange.order _ _) ∙ g.met.Q.Kind.reads.cmp _ _) ∙ not_before _ in
    (look.ensures.starts ∙ i.0, rw (look.ensures.counted) (next_passes (is_up_to g.Q.Kind.kind.cmp c.args.key.now) c.args.probe.now.0 c.ilog2-exponent.result c.requires.rising _ _ _ c.fits.half i.1 c.halves-test.true c.fits.invariant.0 look.result.now found (sym told ∙ c.if-is_ge-2.true)))

pub halves-preserved : goal.halves-preserved
halves-preserved g c =
    let i = c.halves.invariant in
    let look = c.start-in-halves in
    let found : slice_get c.args.probe.now.0 (c.halves.base + c.fits.half - 1) ≡ Some look.result.now = rw (← i.0) look.ensures.start in
    let told : c.is_ge-in-halves.result ≡ is_up_to g.Q.Kind.kind.cmp c.args.key.now look.result.now = c.is_ge-in-halves.ensures ∙ ap is_ge (c.cmp-in-halves.ensures ∙ sym (g.met.R.KeyRange.order _ _) ∙ g.met.Q.Kind.reads.cmp _ _) ∙ not_before _ in
    (look.ensures.starts ∙ i.0, rw (look.ensures.counted) (next_fails (is_up_to g.Q.Kind.kind.cmp c.args.key.now) c.args.probe.now.0 c.ilog2-exponent.result c.requires.rising _ _ _ c.fits.half i.1 c.halves-test.true c.fits.invariant.0 look.result.now found (sym told ∙ c.if-is_ge-2.false)))

pub returns-clause-few_asked : goal.returns-clause-few_asked
returns-clause-few_asked g c = λ _.
    all_asked (is_up_to g.Q.Kind.kind.cmp c.args.key.now) c.args.probe.now.0 c.ilog2-exponent.result _ _ c.halves.half c.halves.invariant.1 (omega arith) (omega (arith, c.ilog2-exponent.ensures.power_le, c.len-len.ensures.len))
