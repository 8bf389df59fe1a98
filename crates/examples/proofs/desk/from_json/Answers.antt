use Rattle.std.proofs.Common.{refl, rules}
use Rattle.std.proofs.lemmas.Result.{IfErr-weaker, IfOk-weaker}
use Rattle.std.specs.Ordering.{nat_cmp}
use Rattle.std.specs.Prelude.{nat_eq}
use Rattle.rangemap.specs.Form.TheVariants.{Canonical}
use Rattle.rangemap.specs.Ranges.{half_open}
use Rattle.rangemap.proofs.JsonLemmas.{exact_weaker, reading_weaker, refusal_weaker}
use Rattle.examples.proofs.desk.from_json.Goals as goal

-- the functions read numbers
pub returns-clause-reading : goal.returns-clause-reading
returns-clause-reading c = IfOk-weaker c.from_value.result _ _ (λ sheet reading. reading_weaker (half_open nat_cmp) (λ hour answer says. search (rules, says.shows)) (λ guest answer says. search (rules, says.shows)) reading) c.from_value.ensures.ok

pub returns-clause-refused : goal.returns-clause-refused
returns-clause-refused c = IfErr-weaker c.from_value.result _ _ (λ error refuses. refusal_weaker (half_open nat_cmp) (λ hour answer says. search (rules, says.shows)) (λ guest answer says. search (rules, says.shows)) _ _ _ error refuses) c.from_value.ensures.err

pub returns-clause-exact : goal.returns-clause-exact
returns-clause-exact c = IfErr-weaker c.from_value.result _ _ (λ error exact. exact_weaker (half_open nat_cmp)
    (λ hour answer says. search (rules, says.shows)) (λ guest answer says. search (rules, says.shows))
    (λ hour answer says. record { shown = record c.args.value { now = hour }; shows = refl; says = search rules })
    (λ guest answer says. record { shown = record c.args.value { now = guest }; shows = refl; says = search rules })
    nat_eq Canonical _ error exact) c.from_value.ensures.exact
