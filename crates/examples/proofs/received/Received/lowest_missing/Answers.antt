use Rattle.std.proofs.Common.{arith, ◌^◌, ◌+◌, ◌≡◌, false, subst, sym}
use Rattle.rangemap.proofs.NumberKinds.{closed_unsigned}
use Rattle.rangemap.proofs.SetCallerLemmas.{set_run_found}
use Rattle.examples.specs.Received.{is_in}
use Rattle.examples.proofs.received.Received.lowest_missing.Goals as goal

pub returns-then-last-lt18446744073709551615-clause-found : goal.returns-then-last-lt18446744073709551615-clause-found
returns-then-last-lt18446744073709551615-clause-found c =
    let run = set_run_found (closed_unsigned (2 ^ 64)) c.args.self.now.numbers c.in-Some.ensures.canonical c.ranges.start.fits c.in-Some.ensures.found in
    record {
      missing = subst (λ e. is_in c.args.self.now.numbers (e + 1) ≡ false) (sym c.end-last.ensures) (run.ends (omega (arith, c.end-last.ensures)));
      from = omega (arith, c.end-last.ensures, run.to);
      lowest = λ other from to. run.has other (omega (arith, run.from)) (omega (arith, c.end-last.ensures));
    }

pub returns-else-last-lt18446744073709551615-clause-none : goal.returns-else-last-lt18446744073709551615-clause-none
returns-else-last-lt18446744073709551615-clause-none c = λ other from to.
    let run = set_run_found (closed_unsigned (2 ^ 64)) c.args.self.now.numbers c.in-Some.ensures.canonical c.ranges.start.fits c.in-Some.ensures.found in
    run.has other (omega (arith, run.from)) (omega (arith, c.end-last.ensures))
