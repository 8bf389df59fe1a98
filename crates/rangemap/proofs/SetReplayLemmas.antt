-- What calls on a list of sets make of the functions that these stand for.
use Rattle.std.proofs.Common.{arith, ◌≡◌, ℕ, ◌<◌, ◌≤◌, true, false, List, [], ◌∷◌, ◌++◌, length, take, get_or, set, Option, Result, Ok, Err, OnOk, OnErr, Vec, is_ok, refl, inl, inr}
use Rattle.std.specs.Bool.{⊤}
use Rattle.std.specs.declared.alloc.AllocError.{AllocError}
use Rattle.rangemap_core.specs.Operators.{common, either, one_only, without}
use Rattle.rangemap_core.specs.Ranges.{RangeKind, Alike, IsCanonOf, IsCanonOfPoints, covers, nothing, override_all, unit_eq, value_at, with_unit}
use Rattle.rangemap_core.specs.Sets.{Adds}
use Rattle.rangemap_core.proofs.AlikeLemmas.{canon_along}
use Rattle.rangemap_core.proofs.CanonLemmas.{override_all_of}
use Rattle.rangemap_core.proofs.OperatorLemmas.{common_alike, either_alike, one_only_alike, without_alike}
use Rattle.rangemap_core.proofs.SetLemmas.{all_inserted, all_made, exchanged, intersected, subtracted, united}
use Rattle.rangemap_core.proofs.ZipLemmas.{added, as_long, changed, found}
use Rattle.rangemap.specs.declared.range_set.calls.SetCall.TheVariants.{FromIter, Extend}
use Rattle.rangemap_containers.specs.Histories.{AreCanonOf, Makes}
use Rattle.rangemap.specs.SetHistories.{Joins, SetStep}
use Rattle.rangemap.specs.Joined.{joining, made_by}
use Rattle.rangemap.specs.declared.range_set.calls.Join.{Join}
use Rattle.rangemap.specs.declared.range_set.calls.Join.TheVariants.{Union, Intersection, Difference, SymmetricDifference}
use Rattle.rangemap.proofs.SetRoundTripLemmas.{unit_equiv}

module _ {K X : Type 0} (k : RangeKind K X) (ls : List (List X)) where
  -- the function at a set's place has the set's list
  abbrev Shows : (K → Option ⊤) → List X → Type 0
  Shows f m = IsCanonOf k (unit_eq k) f (with_unit k m)

  -- an operator that was refused changes nothing
  pub not_joined : (A : Type 0) (i j : ℕ) (o : Join) → Makes k (unit_eq k) (with_unit k) (SetStep {A = A} k) ls (joining o i j) false ls
  not_joined A i j Union fs h = (fs, refl, h)
  not_joined A i j Intersection fs h = (fs, refl, h)
  not_joined A i j Difference fs h = (fs, refl, h)
  not_joined A i j SymmetricDifference fs h = (fs, refl, h)

  module _ (A : Type 0) (i j : ℕ) (l r m : List X) (here : i < length ls) (is : l ≡ get_or ls i l) (there : j < length ls) (it : r ≡ get_or ls j r) where
    -- what an operator that is alike for alike functions makes of those at the two places is added at the end
    joins : (operator : (K → Option ⊤) → (K → Option ⊤) → K → Option ⊤)
        → ((f u g v : K → Option ⊤) → Alike k (unit_eq k) f u → Alike k (unit_eq k) g v → Alike k (unit_eq k) (operator f g) (operator u v))
        → IsCanonOf k (unit_eq k) (operator (value_at k (with_unit k l)) (value_at k (with_unit k r))) (with_unit k m)
        → (fs : List (K → Option ⊤)) → AreCanonOf k (unit_eq k) (with_unit k) fs ls
        → (gs : List (K → Option ⊤)) × Joins operator fs i j gs × AreCanonOf k (unit_eq k) (with_unit k) gs (ls ++ m ∷ [])
    joins operator alike made fs h =
        let f = found Shows fs ls i l h here is in
        let g = found Shows fs ls j r h there it in
        let at_l = value_at k (with_unit k l) in
        let at_r = value_at k (with_unit k r) in
        (_, (f.0, g.0, f.1, g.1, refl), added Shows fs ls (operator f.0 g.0) m h (canon_along k (unit_equiv k) (operator at_l at_r) (operator f.0 g.0) (with_unit k m) (alike at_l f.0 at_r g.0 f.2.represents g.2.represents) made))

    -- what a call makes of the sets at two places is added at the end
    pub joined_here : (o : Join) → IsCanonOfPoints k (made_by o (covers k l) (covers k r)) m → Makes k (unit_eq k) (with_unit k) (SetStep {A = A} k) ls (joining o i j) true (ls ++ m ∷ [])
    joined_here Union made fs h = joins either (either_alike k (unit_eq k)) (united k l r m made) fs h
    joined_here Intersection made fs h = joins common (common_alike k (unit_eq k)) (intersected k l r m made) fs h
    joined_here Difference made fs h = joins without (without_alike k (unit_eq k)) (subtracted k l r m made) fs h
    joined_here SymmetricDifference made fs h = joins one_only (one_only_alike k (unit_eq k)) (exchanged k l r m made) fs h

  module _ {A : Type 0} (at : ℕ) (given : Vec X A) where
    pub extend_past : length ls ≤ at → Makes k (unit_eq k) (with_unit k) (SetStep k) ls (Extend at given) false ls
    extend_past past fs h = (fs, inl (omega (arith, as_long Shows fs ls h), refl), h)

    pub extend_here : (l m : List X) → at < length ls → l ≡ get_or ls at l → (res : Result (Unit {0}) AllocError)
        → OnOk res (Adds k l given.items m)
        → OnErr res ((n : ℕ) × (n < length given.items) × Adds k l (take n given.items) m)
        → Makes k (unit_eq k) (with_unit k) (SetStep k) ls (Extend at given) (is_ok res) (set ls at m)
    extend_here l m here is (Ok u) ok err fs h = changed Shows fs ls at l m (λ f. override_all k f (with_unit k given.items)) h here is (λ f c. override_all_of k (unit_equiv k) f (with_unit k given.items) (with_unit k l) (with_unit k m) c (all_inserted k l given.items m ok))
    extend_here l m here is (Err u) ok err fs h =
        let r = changed Shows fs ls at l m (λ f. override_all k f (with_unit k (take err.0 given.items))) h here is (λ f c. override_all_of k (unit_equiv k) f (with_unit k (take err.0 given.items)) (with_unit k l) (with_unit k m) c (all_inserted k l (take err.0 given.items) m err.2)) in
        (r.0, inr (err.0, err.1, r.1), r.2)

  pub from_iter_made : {A : Type 0} (given : Vec X A) (m : List X) → IsCanonOfPoints k (covers k given.items) m → Makes k (unit_eq k) (with_unit k) (SetStep k) ls (FromIter given) true (ls ++ m ∷ [])
  from_iter_made given m all fs h = (_, refl, added Shows fs ls (override_all k nothing (with_unit k given.items)) m h (all_made k given.items m all))
