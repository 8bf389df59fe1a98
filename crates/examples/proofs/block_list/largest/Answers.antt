use Rattle.std.proofs.Common.{arith, ◌≡◌, inl, inr, ◌*◌, ◌-◌, ◌%◌, ◌≤◌, ap, sym, subst, ◌∙◌}
use Rattle.std.proofs.lemmas.Bool.{cases_lt}
use Rattle.examples.specs.BlockList.{size_of}
use Rattle.examples.proofs.CidrLemmas.{aligned_too, smaller, twice}
use Rattle.examples.proofs.block_list.largest.Goals as goal
use Rattle.examples.proofs.block_list.largest.Goals.{then-wider-test+then-at-size-eq0+else-at-size, then-wider-test+else-at-size-eq0, else-wider-test}

pub wider-preserved : goal.wider-preserved
wider-preserved c =
    let within = c.wider.invariant.1.prefix in
    let double : 2 * c.wider.size ≡ size_of (c.wider.prefix - 1) = ap (λ n. 2 * n) c.wider.invariant.0 ∙ sym (twice c.wider.prefix c.wider-test.true within) in (
      omega (arith, double),
      record { prefix = omega (arith, within); aligned = subst (λ n. c.args.at % n ≡ 0) double c.if-at-size-eq0.true },
      omega (arith, c.if-at-size.true),
    )

pub returns-clause-largest : goal.returns-clause-largest
returns-clause-largest c =
    let within = c.wider.invariant.1.prefix in
    record {
      is_block = c.wider.invariant.1;
      within = omega (arith, c.wider.invariant.0, c.wider.invariant.2);
      largest = λ other there starts fits.
          elim (cases_lt other.prefix c.wider.prefix) [
            | inr narrow ↦ narrow
            | inl wide ↦
                let less : other.prefix ≤ c.wider.prefix - 1 = omega (arith, wide) in
                let double : 2 * c.wider.size ≡ size_of (c.wider.prefix - 1) = ap (λ n. 2 * n) c.wider.invariant.0 ∙ sym (twice c.wider.prefix (omega (arith, wide)) within) in
                absurd (elim c.wider-test.branch [
                  | then-wider-test+then-at-size-eq0+else-at-size w ↦ omega (arith, double, smaller other.prefix (c.wider.prefix - 1) less, starts, fits, w.if-at-size.false)
                  | then-wider-test+else-at-size-eq0 w ↦
                      w.if-at-size-eq0.false (subst (λ n. c.args.at % n ≡ 0) (sym double) (subst (λ first. first % size_of (c.wider.prefix - 1) ≡ 0) starts (aligned_too other.first other.prefix (c.wider.prefix - 1) less (omega (arith, within)) there.aligned)))
                  | else-wider-test w ↦ omega (arith, w.wider-test.false, wide)
                ])
          ];
    }
