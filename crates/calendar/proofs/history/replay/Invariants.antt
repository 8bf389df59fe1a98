use Rattle.std.proofs.Common.{◌≡◌, ◌≤◌, ℕ, length, vec_len, vec_capacity}
use Rattle.calendar.specs.Bookings.{AreAnswers, IsDay, holder_of, holders}
use Rattle.calendar.proofs.history.replay.Given as goal

abbrev pub invariant-loop-call : goal.invariant-loop-call
invariant-loop-call g l = record {
  answers : AreAnswers (holder_of l.fn.calendar) l.yielded l.answers.items;
  holders : (day : ℕ) → IsDay day → holder_of l.calendar day ≡ holders (holder_of l.fn.calendar) l.yielded l.answers.items day;
  answered : vec_len l.answers ≡ length l.yielded;
  room : vec_len l.fn.calls ≤ vec_capacity l.answers;
}
