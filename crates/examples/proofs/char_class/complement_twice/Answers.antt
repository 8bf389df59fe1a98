use Rattle.std.proofs.Common.{Bool, true, false, ap, not, refl, ◌≡◌, ◌∙◌}
use Rattle.std.proofs.lemmas.Result.{IfOk-weaker}
use Rattle.rangemap.proofs.SetCallerLemmas.{equal_sets, placed_characters}
use Rattle.examples.specs.CharClass.{has}
use Rattle.examples.proofs.char_class.complement_twice.Goals as goal

not_not : (b : Bool) → not (not b) ≡ b
not_not true = refl
not_not false = refl

pub returns-clause-same : goal.returns-clause-same
returns-clause-same c = IfOk-weaker c.complement-2.result _ _ (λ twice are. record {
  canonical = are.canonical;
  points = λ at key. are.points at key ∙ ap not (c.in_ok-complement.ensures.points at key) ∙ not_not (has c.args.class.now.members at);
}) c.complement-2.ensures

pub returns-clause-equal : goal.returns-clause-equal
returns-clause-equal c = IfOk-weaker c.complement-2.result _ _ (λ twice are.
    equal_sets placed_characters twice.members c.args.class.now.members are.canonical c.known.ensures
    (λ at key. are.points at key ∙ ap not (c.in_ok-complement.ensures.points at key) ∙ not_not (has c.args.class.now.members at))) c.complement-2.ensures
