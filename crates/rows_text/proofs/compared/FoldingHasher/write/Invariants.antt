use Rattle.std.proofs.Common.{◌≡◌, ◌+◌, ◌*◌, ◌%◌, ◌^◌, take, fold}
use Rattle.rows_text.proofs.compared.FoldingHasher.write.Given as goal

abbrev pub invariant-loop-byte : goal.invariant-loop-byte
invariant-loop-byte l = l.self.0 ≡ fold (λ value byte. ((value * 31) % 2 ^ 64 + byte) % 2 ^ 64) l.initial.self.0 (take l.byte-index l.bytes)
