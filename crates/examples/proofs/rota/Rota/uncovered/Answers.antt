use Rattle.rangemap.proofs.CallerLemmas.{gap_keys}
use Rattle.rangemap.proofs.NumberKinds.{half_open_unsigned}
use Rattle.examples.specs.Rota.{hours}
use Rattle.examples.proofs.rota.Rota.uncovered.Goals as goal

pub returns : goal.returns
returns c =
    let keys = gap_keys hours c.args.self.now.shifts c.args.hours.now c.gaps.result c.gaps.ensures in
    record {
      from = λ hour h. half_open_unsigned.from c.args.hours.now hour (keys.within hour tt h);
      to = λ hour h. half_open_unsigned.to c.args.hours.now hour (keys.within hour tt h);
      nobody = λ hour h. keys.undefined hour tt h;
      all = λ hour from to none. keys.all hour tt (half_open_unsigned.holds c.args.hours.now hour from to) none;
    }
