-- What calls on a list of containers make of the functions that these stand for.
use Rattle.std.proofs.Common.{arith, ◌≡◌, ℕ, ◌<◌, ◌≤◌, Bool, true, false, List, [], ◌∷◌, ◌++◌, length, map, get_or, set, Option, None, Some, inl, inr, Result, Ok, Err, IfOk, OnOk, OnErr, IsOk, is_ok, refl, subst, sym, ap, ◌∙◌, true≢false}
use Rattle.std.proofs.IntoIterSteps.{All-taken}
use Rattle.std.specs.Cmp.{IsEquivalence}
use Rattle.std.specs.Iterator.{Yields}
use Rattle.std.specs.Iterator.Adapters.{zip_first, zip_second, zip_steps}
use Rattle.std.specs.Vec.Iter.{into_iter_items, into_iter_len, into_iter_steps}
use Rattle.std.specs.declared.iter.Zip.{Zip}
use Rattle.std.specs.declared.vec.IntoIter.{IntoIter}
use Rattle.std.specs.List.{slice_get}
use Rattle.std.specs.Option.{unwrap_or}
use Rattle.std.specs.declared.alloc.AllocError.{AllocError}
use Rattle.std.proofs.lemmas.Option.{slice_get_past}
use Rattle.rangemap_core.specs.engine.Endpoints.{IsPlaced, EndpointOf}
use Rattle.rangemap_containers.specs.declared.calls.Change.TheVariants.{New, Insert, Remove, Clear, Clone}
use Rattle.rangemap_containers.specs.Histories.{AreCanonOf, ChangeStep, IsUndefinedOn, Makes, MakesAll, Run}
use Rattle.rangemap_core.specs.Ranges.{RangeKind, IsCanonOf, IsStorable, erase, nothing, overlapped, override, value_at}
use Rattle.rangemap_core.proofs.AlikeLemmas.{canon_along}
use Rattle.rangemap_core.proofs.CanonLemmas.{erase_of, override_of}
use Rattle.rangemap_containers.proofs.MeetLemmas.{meets_none}
use Rattle.rangemap_core.proofs.ZipLemmas.{added, as_long, changed, found, kept}

-- one more call
pub Run-last : {F C : Type 0} (step : List F → C → Bool → List F → Type 0) (old mid new : List F) (calls : List C) (answers : List Bool) (call : C) (answer : Bool)
    → Run step old calls answers mid → step mid call answer new → Run step old (calls ++ call ∷ []) (answers ++ answer ∷ []) new
Run-last step old mid new [] [] call answer r s = (new, subst (λ fs. step fs call answer new) r s, refl)
Run-last step old mid new [] (a ∷ answers) call answer r s = absurd r
Run-last step old mid new (c ∷ calls) [] call answer r s = absurd r
Run-last step old mid new (c ∷ calls) (a ∷ answers) call answer r s = (r.0, r.1, Run-last step r.0 mid new calls answers call answer r.2 s)

-- of two vectors of one length, what was taken of both is all of the first
module _ (C X A B : Type 0) where
  abbrev Both : Type 0
  Both = Zip (IntoIter C A) (IntoIter X B)

  abbrev takes : Both → Option (C × X) → Both → Type 0
  takes = zip_steps into_iter_steps into_iter_steps

  of_first : (s : Both) (xs : List (C × X)) (t : Both) → Yields takes s xs t → Yields into_iter_steps (zip_first s) (map (λ x. x.0) xs) (zip_first t)
  of_first s [] t ran = ap zip_first ran
  of_first s (x ∷ xs) t ran = (zip_first ran.0, ran.1.0, of_first ran.0 xs t ran.2)

  as_many : (s : Both) (xs : List (C × X)) (t : Both) → Yields takes s xs t → into_iter_len (zip_first s) ≡ into_iter_len (zip_second s) → into_iter_len (zip_first t) ≡ into_iter_len (zip_second t)
  as_many s [] t ran same = subst (λ (u : Both). into_iter_len (zip_first u) ≡ into_iter_len (zip_second u)) ran same
  as_many s (x ∷ xs) t ran same = as_many ran.0 xs t ran.2 (omega (arith, ran.1.0.1, ran.1.1.1, same))

  pub all_of_first : (s : Both) (xs : List (C × X)) (t u : Both) → into_iter_len (zip_first s) ≡ into_iter_len (zip_second s) → Yields takes s xs t → takes t None u → map (λ x. x.0) xs ≡ into_iter_items (zip_first s)
  all_of_first s xs t u same ran ended = All-taken (zip_first s) (map (λ x. x.0) xs) (zip_first t, (zip_first t, of_first s xs t ran, (at_end ended, at_end ended)))
    where
      at_end : takes t None u → into_iter_len (zip_first t) ≡ 0
      at_end (inl w) = w.1.0
      at_end (inr w) = as_many s xs t ran same ∙ w.1.0

-- what calls make of the functions, from what each makes of the containers
module _ {K X V M C : Type 0} (k : RangeKind K X) (eq : V → V → Bool) (pairs : M → List (X × V)) (step : List (K → Option V) → C → Bool → List (K → Option V) → Type 0) where
  pub made_in_turn : (old new : List M) (calls : List C) (answers : List Bool) → Run (Makes k eq pairs step) old calls answers new → MakesAll k eq pairs step old calls answers new
  made_in_turn old new [] [] r fs h = (fs, refl, subst (AreCanonOf k eq pairs fs) (sym r) h)
  made_in_turn old new [] (a ∷ answers) r fs h = absurd r
  made_in_turn old new (c ∷ calls) [] r fs h = absurd r
  made_in_turn old new (c ∷ calls) (a ∷ answers) r fs h =
      let first = r.1 fs h in
      let rest = made_in_turn r.0 new calls answers r.2 first.0 first.2 in
      (rest.0, (first.0, first.1, rest.1), rest.2)

-- what a call makes that adds one thing, where that was made, and else nothing
pub added_or_not : {M : Type 0} (P : M → Type 0) (MakesIt : Bool → List M → Type 0) (ls new : List M) (made : Result M AllocError) (answer : Bool)
    → ((m : M) → P m → MakesIt true (ls ++ m ∷ [])) → MakesIt false ls → IfOk made P
    → answer ≡ is_ok made → IfOk made (λ m. new ≡ ls ++ m ∷ []) → OnErr made (new ≡ ls) → MakesIt answer new
added_or_not P MakesIt ls new (Ok m) answer one none p is ok err = rw is (rw ok (one m p))
added_or_not P MakesIt ls new (Err u) answer one none p is ok err = rw is (rw err none)

-- a function that stands at a place stands there alone
one_there : {F : Type 0} {o : Option F} {f g : F} → o ≡ Some f → o ≡ Some g → f ≡ g
one_there {f = f} a b = ap (λ o. unwrap_or o f) (sym a ∙ b)

module _ {K X V M : Type 0} (k : RangeKind K X) {eq : V → V → Bool} (e : IsEquivalence eq) (shown : M → List (X × V)) (ls : List M) where
  -- the function at a container's place has the container's list
  abbrev Shows : (K → Option V) → M → Type 0
  Shows f m = IsCanonOf k eq f (shown m)

  -- a call that names no place
  module _ (at : ℕ) (past : length ls ≤ at) where
    pub remove_past : (r : X) → Makes k eq shown (ChangeStep k) ls (Remove at r) false ls
    remove_past r fs h = (fs, (refl, λ f there. absurd (beyond fs at f (omega (arith, as_long Shows fs ls h)) there)), h)
      where
        beyond : {F : Type 0} (xs : List F) (i : ℕ) (x : F) → length xs ≤ i → slice_get xs i ≡ Some x → ⊥
        beyond xs i x l there = let none = slice_get_past xs i l in cc

    pub clear_past : Makes k eq shown (ChangeStep k) ls (Clear at) false ls
    clear_past fs h = (fs, (refl, omega (arith, as_long Shows fs ls h)), h)

  -- a call at the place of a container that was l and is m
  module _ (at : ℕ) (l m : M) (here : at < length ls) (is : l ≡ get_or ls at l) where
    same : shown m ≡ shown l → (fs : List (K → Option V)) → AreCanonOf k eq shown fs ls → AreCanonOf k eq shown fs (set ls at m)
    same s fs h = kept Shows fs ls at l m h here is (λ f c. subst (IsCanonOf k eq f) (sym s) c)

    pub insert_here : (r : X) (v : V) (res : Result (Unit {0}) AllocError) → OnOk res (IsCanonOf k eq (override k (value_at k (shown l)) r v) (shown m)) → OnErr res (shown m ≡ shown l) → Makes k eq shown (ChangeStep k) ls (Insert at r v) (is_ok res) (set ls at m)
    insert_here r v (Ok u) ok err fs h = changed Shows fs ls at l m (λ f. override k f r v) h here is (λ f c. override_of k e f r (shown l) (shown m) c v ok)
    insert_here r v (Err u) ok err fs h = (fs, refl, same err fs h)

    pub remove_here : {end_place : X → Option K} {part : EndpointOf X → EndpointOf X → X} (p : IsPlaced k end_place part) (r : X) → IsStorable k r → (res : Result (Unit {0}) AllocError) → OnOk res (IsCanonOf k eq (erase k (value_at k (shown l)) r) (shown m)) → OnErr res (shown m ≡ shown l) → (overlapped k (shown l) r ≡ [] → IsOk res × (shown m ≡ shown l))
        → Makes k eq shown (ChangeStep k) ls (Remove at r) (is_ok res) (set ls at m)
    remove_here p r stored (Ok u) ok err none fs h = changed Shows fs ls at l m (λ f. erase k f r) h here is (λ f c. erase_of k e f r (shown l) (shown m) c ok)
    remove_here p r stored (Err u) ok err none fs h = (fs, (refl, λ f there undefined. met f there undefined), same err fs h)
      where
        met : (f : K → Option V) → slice_get fs at ≡ Some f → IsUndefinedOn k f r → ⊥
        met f there undefined =
            let own = found Shows fs ls at l h here is in
            let is_f : IsCanonOf k eq f (shown l) = subst (λ g. IsCanonOf k eq g (shown l)) (one_there own.1 there) own.2 in
            true≢false (sym (none (meets_none k p eq f (shown l) r is_f stored undefined)).0)

    pub clear_here : shown m ≡ [] → Makes k eq shown (ChangeStep k) ls (Clear at) true (set ls at m)
    clear_here empty fs h = changed Shows fs ls at l m (λ f. nothing) h here is (λ f c. rw empty (record { canonical = tt; represents = λ x key. refl }))

    pub clone_here : IsCanonOf k eq (value_at k (shown l)) (shown m) → Makes k eq shown (ChangeStep k) ls (Clone at) true (ls ++ m ∷ [])
    clone_here copy fs h =
        let own = found Shows fs ls at l h here is in
        (_, (own.0, own.1, refl), added Shows fs ls own.0 m h (canon_along k e (value_at k (shown l)) own.0 (shown m) own.2.represents copy))

  -- a call that adds a container
  pub new_made : (m : M) → shown m ≡ [] → Makes k eq shown (ChangeStep k) ls New true (ls ++ m ∷ [])
  new_made m empty fs h = (_, refl, added Shows fs ls nothing m h (rw empty (record { canonical = tt; represents = λ x key. refl })))
