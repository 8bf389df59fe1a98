-- The words that the calls took are those of the line.
use Rattle.std.proofs.Common.{◌<◌, ◌==◌, length, arith, rules, tests}
use Rattle.std.proofs.lemmas.Iterator.Splits.{YieldsList-from_slice_split}
use Rattle.std.proofs.lemmas.List.Splits.{length-slice_split}
use Rattle.rangerun_library.specs.Words.{words_of}
use Rattle.rangerun_library.proofs.Division.{more_than_four, none_left, of_runs, one_taken, onto, some_given}
use Rattle.rangerun_library.proofs.words.divide.Goals as goal
use Rattle.rangerun_library.proofs.words.divide.Goals.{in-None-default-default-default, in-Some-None-default-default, in-Some-Some-None-default, in-Some-Some-Some-None, in_default}

pub returns : goal.returns
returns c =
    let line = c.args.line.now in
    let words = of_runs c.split-words.ensures.runs (YieldsList-from_slice_split _ (λ b. b == 32) line c.split-words.ensures.rest c.split-words.ensures.done c.split-words.ensures.closure (λ x r q k. search (rules, tests))) in
    let some : 0 < length (words_of line) = omega (arith, length-slice_split (λ b. b == 32) line) in
    let first = some_given _ some words _ c.next.ensures.steps in
    let rest = one_taken _ words _ first.0 first.1 c.next.ensures.steps in
    let name = rw first.1 at c.unwrap_or-first.ensures in
    elim c.match-next.branch [
      | in-None-default-default-default w ↦
          let none = none_left _ rest.2 _ w.in-None-default-default-default.is-0 c.next-2.ensures.steps in
          rw (w.operands-is, name) (onto rest.1 none)
      | in-Some-None-default-default w ↦
          let one = one_taken _ rest.2 _ _ w.in-Some-None-default-default.is-0 c.next-2.ensures.steps in
          let none = none_left _ one.2 _ w.in-Some-None-default-default.is-1 c.next-3.ensures.steps in
          rw (w.operands-is, name) (onto rest.1 (onto one.1 none))
      | in-Some-Some-None-default w ↦
          let one = one_taken _ rest.2 _ _ w.in-Some-Some-None-default.is-0 c.next-2.ensures.steps in
          let two = one_taken _ one.2 _ _ w.in-Some-Some-None-default.is-1 c.next-3.ensures.steps in
          let none = none_left _ two.2 _ w.in-Some-Some-None-default.is-2 c.next-4.ensures.steps in
          rw (w.operands-is, name) (onto rest.1 (onto one.1 (onto two.1 none)))
      | in-Some-Some-Some-None w ↦
          let one = one_taken _ rest.2 _ _ w.in-Some-Some-Some-None.is-0 c.next-2.ensures.steps in
          let two = one_taken _ one.2 _ _ w.in-Some-Some-Some-None.is-1 c.next-3.ensures.steps in
          let three = one_taken _ two.2 _ _ w.in-Some-Some-Some-None.is-2 c.next-4.ensures.steps in
          let none = none_left _ three.2 _ w.in-Some-Some-Some-None.is-3 c.next-5.ensures.steps in
          rw (w.operands-is, name) (onto rest.1 (onto one.1 (onto two.1 (onto three.1 none))))
      | in_default w ↦
          let one = one_taken _ rest.2 _ _ w.in_default.is-0 c.next-2.ensures.steps in
          let two = one_taken _ one.2 _ _ w.in_default.is-1 c.next-3.ensures.steps in
          let three = one_taken _ two.2 _ _ w.in_default.is-2 c.next-4.ensures.steps in
          let four = one_taken _ three.2 _ _ w.in_default.is-3 c.next-5.ensures.steps in
          rw w.operands-is (more_than_four (onto rest.1 (onto one.1 (onto two.1 (onto three.1 four.1)))))
    ]
