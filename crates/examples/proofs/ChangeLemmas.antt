-- What holds after a call that may be refused.
use Rattle.std.proofs.Common.{◌≡◌, Err, Ok, Result, subst, sym}
use Rattle.std.specs.Prelude.{OnErr, OnOk}

-- what holds after a call that changed nothing where it was refused
pub after_either : {L E : Type 0} (P : L → Type 0) (old new : L) (r : Result (Unit {0}) E) {A : Type 0} → (A → P new) → P old → OnOk r A → OnErr r (new ≡ old) → P new
after_either P old new (Ok u) f before ok err = f ok
after_either P old new (Err e) f before ok err = subst P (sym err) before
