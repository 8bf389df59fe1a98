use Rattle.std.proofs.Common.{arith, ap, ◌∙◌, sym}
use Rattle.std.proofs.lemmas.Grind.{common_steps}
use Rattle.calendar.specs.Bookings.{holder_of, holders}
use Rattle.calendar.proofs.BookingLemmas.{answer_alike, answers_last, holders_last, made_alike}
use Rattle.calendar.proofs.history.replay.Goals as goal

pub loop-call-preserved : goal.loop-call-preserved
loop-call-preserved g c =
    let before = c.loop-call.invariant in
    let old = holder_of c.args.calendar.now in
    let now = holder_of c.loop-call.calendar in
    let calls = c.loop-call.yielded in
    let answers = c.loop-call.answers.items in
    let call = c.in-Some.call in
    let answer = c.make-answer.result in
    record {
      answers = rw c.push_reserved.ensures.items (answers_last old calls answers call answer before.answers (answer_alike now (holders old calls answers) before.holders call answer c.make-answer.ensures.answer));
      holders = λ day key. rw c.push_reserved.ensures.items (c.make-answer.ensures.holders day key ∙ made_alike now (holders old calls answers) before.holders call answer day key ∙ sym (ap (λ f. f day) (holders_last old calls answers call answer before.answers)));
      answered = grind (arith, common_steps);
      room = grind (arith, common_steps);
    }
