use Rattle.std.proofs.lemmas.Result.{on_ok_weaker}
use Rattle.std.specs.Ordering.{nat_cmp}
use Rattle.rangemap.specs.Ranges.{half_open}
use Rattle.rangemap.proofs.NumberKinds.{placed_half_open}
use Rattle.rangemap.proofs.SetCallerLemmas.{added_within, no_set_gaps}
use Rattle.examples.proofs.byte_cache.ByteCache.fetched.Goals as goal

pub returns-clause-none_missing : goal.returns-clause-none_missing
returns-clause-none_missing c =
    on_ok_weaker c.insert.result
    (λ added parts are. no_set_gaps placed_half_open c.insert.new.self c.args.range parts are (added_within (half_open nat_cmp) c.args.self.now.held c.insert.new.self c.args.range added))
    c.insert.ensures.ok
