-- Lists that get one element more.
use Rattle.std.proofs.Common.{List, [], ◌∷◌, ◌++◌}
use Rattle.std.specs.List.{AllByRecursion}
use Rattle.rangemap_core.specs.Ranges.{RangeKind, AreNonEmpty}

-- what holds of each element and of one more
pub all_and_one : {X : Type 0} (P : X → Type 0) (xs : List X) (x : X) → AllByRecursion P xs → P x → AllByRecursion P (xs ++ (x ∷ []))
all_and_one P [] x all last = (last, tt)
all_and_one P (first ∷ rest) x all last = (all.0, all_and_one P rest x all.1 last)

-- the same of pairs whose ranges are not empty
pub pairs_and_one : {K X V : Type 0} (k : RangeKind K X) (pairs : List (X × V)) (pair : X × V) → AreNonEmpty k pairs → k.IsNonEmpty pair.0 → AreNonEmpty k (pairs ++ (pair ∷ []))
pairs_and_one k [] pair all last = (last, tt)
pairs_and_one k (first ∷ rest) pair all last = (all.0, pairs_and_one k rest pair all.1 last)
