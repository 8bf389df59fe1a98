use Rattle.std.proofs.Common.{rules}
use Rattle.std.proofs.lemmas.Result.{IfErr-weaker, IfOk-weaker}
use Rattle.std.specs.Ordering.{nat_cmp}
use Rattle.rangemap.specs.Ranges.{half_open}
use Rattle.rangemap.proofs.JsonLemmas.{form_weaker, written_unless_no_memory}
use Rattle.examples.proofs.desk.to_json.Goals as goal

-- the functions write numbers
pub returns-clause-form : goal.returns-clause-form
returns-clause-form c = IfOk-weaker c.to_value.result _ _ (λ value form. form_weaker (half_open nat_cmp) (λ hour answer says. search (rules, says.shows)) (λ guest answer says. search (rules, says.shows)) form) c.to_value.ensures.ok

-- and refuse none
pub returns-clause-refused : goal.returns-clause-refused
returns-clause-refused c = IfErr-weaker c.to_value.result _ _ (λ error refuses. written_unless_no_memory (half_open nat_cmp) _ _ _ error refuses (λ hour fault says. search (rules, says.shows)) (λ guest fault says. search (rules, says.shows))) c.to_value.ensures.err
