use Rattle.std.proofs.Common.{◌∙◌, ap}
use Rattle.std.specs.Ordering.{nat_cmp}
use Rattle.rangemap.specs.Ranges.{covers, half_open}
use Rattle.rangemap.proofs.SetNumberLemmas.{covers_append}
use Rattle.examples.proofs.calling.chain.Goals as goal

pub returns : goal.returns
returns c = λ key.
    ap (λ xs. covers (half_open nat_cmp) xs key) c.in_ok-append.ensures.items
    ∙ covers_append (half_open nat_cmp) c.args.ranges.now.items c.args.more.now.items key
