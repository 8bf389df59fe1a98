-- A list that a call leaves, whether it was refused or not.
use Rattle.std.proofs.Common.{◌≡◌, List, Result, Ok, Err, OnOk, OnErr, subst, sym}

pub by_result : {T E X : Type 0} (Q : List X → Type 0) (r : Result T E) (old new replaced : List X) → OnOk r (new ≡ replaced) → OnErr r (new ≡ old) → Q replaced → Q old → Q new
by_result Q (Ok u) old new replaced h k made kept = subst Q (sym h) made
by_result Q (Err f) old new replaced h k made kept = subst Q (sym k) kept
