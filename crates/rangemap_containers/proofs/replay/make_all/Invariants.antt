use Rattle.std.proofs.Common.{◌≡◌, ◌+◌, ◌≤◌, length, map, vec_len, vec_capacity}
use Rattle.rangemap_containers.specs.Histories.{Makes, Run}
use Rattle.rangemap_containers.proofs.replay.make_all.Given as goal

abbrev pub invariant-loop-call : goal.invariant-loop-call
invariant-loop-call g l = record {
  made : Run (Makes g.M.Kind.Kind.kind g.M.Value.PartialEq.eq g.M.Container.pairs g.C.CallOn.step) l.fn.containers.items (map (λ turn. turn.0) l.yielded) l.answers.items l.containers.items;
  room : vec_len l.containers + vec_len l.fn.calls ≤ vec_capacity l.containers + length l.yielded;
  answered : vec_len l.answers ≡ length l.yielded;
  room_for_answers : vec_len l.fn.calls ≤ vec_capacity l.answers;
}
