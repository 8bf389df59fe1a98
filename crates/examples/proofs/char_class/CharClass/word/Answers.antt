use Rattle.std.proofs.Common.{◌∙◌}
use Rattle.std.proofs.lemmas.Result.{IfOk-weaker}
use Rattle.examples.proofs.WordLemmas.{word_points}
use Rattle.examples.proofs.char_class.CharClass.word.Goals as goal

pub returns : goal.returns
returns c = IfOk-weaker c.from_ranges.result _ _ (λ class are. record {
  canonical = are.canonical;
  points = λ at key. are.points at key ∙ word_points _ _ _ _ (c.new.ensures.start, c.new.ensures.end) (c.new-2.ensures.start, c.new-2.ensures.end) (c.new-3.ensures.start, c.new-3.ensures.end) (c.new-4.ensures.start, c.new-4.ensures.end) at;
}) c.from_ranges.ensures
