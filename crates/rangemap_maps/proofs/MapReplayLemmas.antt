-- What calls that take pairs make of the functions that maps stand for.
use Rattle.std.proofs.Common.{arith, ◌≡◌, ℕ, ◌<◌, ◌≤◌, true, false, List, [], ◌∷◌, ◌++◌, Bool, length, take, get_or, set, Option, Result, Ok, Err, OnOk, OnErr, Vec, is_ok, refl, inl, inr}
use Rattle.std.specs.Cmp.{IsEquivalence}
use Rattle.std.specs.declared.alloc.AllocError.{AllocError}
use Rattle.rangemap_core.specs.Ranges.{RangeKind, IsCanonOf, Overrides, nothing, override_all}
use Rattle.rangemap_core.proofs.CanonLemmas.{override_all_of}
use Rattle.rangemap_core.proofs.ZipLemmas.{added, as_long, changed}
use Rattle.rangemap_containers.specs.Histories.{Makes}
use Rattle.rangemap_maps.specs.MapHistories.{Step}
use Rattle.rangemap_maps.specs.declared.range_map.calls.Call.TheVariants.{FromIter, Extend}

module _ {K X V A : Type 0} (k : RangeKind K X) {eq : V → V → Bool} (e : IsEquivalence eq) (ls : List (List (X × V))) (pairs : Vec (X × V) A) where
  -- the function at a map's place has the map's list
  abbrev Shows : (K → Option V) → List (X × V) → Type 0
  Shows f m = IsCanonOf k eq f m

  pub from_iter_made : (m : List (X × V)) → IsCanonOf k eq (override_all k nothing pairs.items) m → Makes k eq (λ map. map) (Step k) ls (FromIter pairs) true (ls ++ m ∷ [])
  from_iter_made m all fs h = (_, refl, added Shows fs ls (override_all k nothing pairs.items) m h all)

  module _ (at : ℕ) where
    pub extend_past : length ls ≤ at → Makes k eq (λ map. map) (Step k) ls (Extend at pairs) false ls
    extend_past past fs h = (fs, inl (omega (arith, as_long Shows fs ls h), refl), h)

    -- the map at the place was l and is m
    pub extend_here : (l m : List (X × V)) → at < length ls → l ≡ get_or ls at l → (res : Result (Unit {0}) AllocError)
        → OnOk res (Overrides k eq l pairs.items m)
        → OnErr res ((n : ℕ) × (n < length pairs.items) × Overrides k eq l (take n pairs.items) m)
        → Makes k eq (λ map. map) (Step k) ls (Extend at pairs) (is_ok res) (set ls at m)
    extend_here l m here is (Ok u) ok err fs h = changed Shows fs ls at l m (λ f. override_all k f pairs.items) h here is (λ f c. override_all_of k e f pairs.items l m c ok)
    extend_here l m here is (Err u) ok err fs h =
        let r = changed Shows fs ls at l m (λ f. override_all k f (take err.0 pairs.items)) h here is (λ f c. override_all_of k e f (take err.0 pairs.items) l m c err.2) in
        (r.0, inr (err.0, err.1, r.1), r.2)
