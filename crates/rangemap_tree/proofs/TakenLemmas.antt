-- The pairs whose starts are taken out, one by one, are those that start between two bounds.
use Rattle.std.proofs.Common.{◌≡◌, List, [], ◌∷◌, ◌++◌, Bool, true, false, cond, not, ◌&&◌, ◌||◌, Option, Some, None, filter, refl, sym, ap, ◌∙◌, subst, true≢false, Ordering, Less, Equal, Greater, is_eq, is_lt, is_le}
use Rattle.std.specs.BTreeMap.Range.{range_contains, is_from_start}
use Rattle.std.specs.declared.ops.Bound.{Bound}
use Rattle.std.specs.declared.ops.Bound.TheVariants.{Excluded}
use Rattle.std.specs.declared.ops.Range.{Range}
use Rattle.std.specs.Cmp.{IsTotalOrder}
use Rattle.rangemap_core.specs.engine.Stretch.{Every}
use Rattle.rangemap_core.proofs.ListLemmas.{Every-map}
use Rattle.rangemap_tree.specs.Starts.{AreStarts, before, past, starts_in, with_piece, without, without_all, IsNewAt}
use Rattle.rangemap_tree.proofs.FilterLemmas.{filter_all, filter_append, filter_both, filter_no, filter_passes, filter_same, passing}
use Rattle.rangemap_tree.proofs.StartLemmas.{before_tied, past_tied, turned}

neither : (a b : Bool) → (not a && not b) ≡ not (a || b)
neither true b = refl
neither false b = refl

or_true : (a : Bool) → (a || true) ≡ true
or_true true = refl
or_true false = refl

and_false : (a b : Bool) → b ≡ true → (a && not b) ≡ false
and_false true true h = refl
and_false false true h = refl
and_false a false h = absurd (true≢false (sym h))

is_equal : (r : Ordering) → is_eq r ≡ true → r ≡ Equal
is_equal Less h = absurd (true≢false (sym h))
is_equal Equal h = refl
is_equal Greater h = absurd (true≢false (sym h))

none_before : (r : Ordering) (b : Bool) → (not (is_le r) && (is_lt r && not b)) ≡ false
none_before Less b = refl
none_before Equal b = refl
none_before Greater b = refl

all_past : (r : Ordering) (b : Bool) → (is_lt r && (is_lt r && not b)) ≡ (is_lt r && not b)
all_past Less b = refl
all_past Equal b = refl
all_past Greater b = refl

module _ {K V : Type 0} (cmp : K → K → Ordering) where
  pub without_none : (ps : List (Range K × V)) → without_all cmp [] ps ≡ ps
  without_none ps = filter_all ps

  pub without_next : (x : K) (xs : List K) (ps : List (Range K × V)) → without_all cmp xs (without cmp x ps) ≡ without_all cmp (x ∷ xs) ps
  without_next x xs ps = filter_both _ _ (λ (p : Range K × V). not (is_eq (cmp x p.0.start) || starts_in cmp xs p)) (λ p. neither (is_eq (cmp x p.0.start)) (starts_in cmp xs p)) ps

module _ {K V : Type 0} {cmp : K → K → Ordering} (o : IsTotalOrder cmp) (within : K → Bool) (tied : (x y : K) → cmp x y ≡ Equal → within x ≡ within y) where
  abbrev Within : Range K × V → Bool
  Within p = within p.0.start

  -- what starts at one of the keys starts within
  only_within : (qs : List (Range K × V)) (xs : List K) → AreStarts cmp qs xs → Every (λ q. Within q ≡ true) qs → (p : Range K × V) → starts_in cmp xs p ≡ true → Within p ≡ true
  only_within qs [] h w p s = absurd (true≢false (sym s))
  only_within [] (x ∷ xs) h w p s = absurd h
  only_within (q ∷ qs) (x ∷ xs) h w p s = go (only_within qs xs h.1 w.1 p) (is_eq (cmp x p.0.start)) refl s
    where
      go : (starts_in cmp xs p ≡ true → Within p ≡ true) → (b : Bool) → is_eq (cmp x p.0.start) ≡ b → (b || starts_in cmp xs p) ≡ true → Within p ≡ true
      go later true e k = sym (tied x p.0.start (is_equal (cmp x p.0.start) e)) ∙ tied x q.0.start h.0 ∙ w.0
      go later false e k = later k

  -- each of those that start within starts at one of the keys
  each_within : (qs : List (Range K × V)) (xs : List K) → AreStarts cmp qs xs → Every (λ q. starts_in cmp xs q ≡ true) qs
  each_within [] xs h = tt
  each_within (q ∷ qs) [] h = absurd h
  each_within (q ∷ qs) (x ∷ xs) h = (ap (λ r. is_eq r || starts_in cmp xs q) h.0, Every-map _ _ qs (λ p s. ap (λ b. is_eq (cmp x p.0.start) || b) s ∙ or_true (is_eq (cmp x p.0.start))) (each_within qs xs h.1))

  pub taken_within : (old new : List (Range K × V)) (xs : List K) → AreStarts cmp (filter Within old) xs → filter Within new ≡ filter Within old → without_all cmp xs new ≡ filter (λ p. not (Within p)) new
  taken_within old new xs h same = filter_same (λ p. not (starts_in cmp xs p)) (λ p. not (Within p)) new
      (Every-map _ _ new (λ p there. ap not (alike p there (Within p) refl)) (passing (λ p. starts_in cmp xs p ≡ true) Within new (subst (Every (λ p. starts_in cmp xs p ≡ true)) (sym same) (each_within (filter Within old) xs h))))
    where
      none : (p : Range K × V) (b : Bool) → starts_in cmp xs p ≡ b → Within p ≡ false → b ≡ false
      none p true e w = absurd (true≢false (sym (only_within (filter Within old) xs h (filter_passes Within old) p e) ∙ w))
      none p false e w = refl

      alike : (p : Range K × V) → (Within p ≡ true → starts_in cmp xs p ≡ true) → (b : Bool) → Within p ≡ b → starts_in cmp xs p ≡ Within p
      alike p there true w = there w ∙ sym w
      alike p there false w = none p (starts_in cmp xs p) refl w ∙ sym w

-- ---- what is put in does not start between the bounds

module _ {K V : Type 0} {cmp : K → K → Ordering} (o : IsTotalOrder cmp) (t : K) (piece : Option (K × (Range K × V))) (old : List (Range K × V)) (new_there : IsNewAt cmp t piece old) where
  pub within_piece : (lo : Bound K) → filter (λ p. range_contains cmp lo (Excluded t) p.0.start) (with_piece cmp piece old) ≡ filter (λ p. range_contains cmp lo (Excluded t) p.0.start) old
  within_piece lo = elim piece as (λ piece. IsNewAt cmp t piece old → filter (λ (p : Range K × V). range_contains cmp lo (Excluded t) p.0.start) (with_piece cmp piece old) ≡ filter (λ (p : Range K × V). range_contains cmp lo (Excluded t) p.0.start) old) [
    | None ↦ λ n. refl
    | Some q ↦ λ n.
        let at : cmp t q.1.0.start ≡ Equal = o.congr t q.0 q.1.0.start (turned o q.0 t n.1) ∙ n.0 in
        let out : range_contains cmp lo (Excluded t) q.1.0.start ≡ false = and_false (is_from_start cmp lo q.1.0.start) (is_le (cmp t q.1.0.start)) (ap is_le at) in
        let test : Range K × V → Bool = λ p. range_contains cmp lo (Excluded t) p.0.start in
        filter_append test (before cmp q.0 old) (q.1 ∷ past cmp q.0 old)
        ∙ ap (λ b. filter test (before cmp q.0 old) ++ cond b (q.1 ∷ filter test (past cmp q.0 old)) (filter test (past cmp q.0 old))) out
        ∙ sym (filter_append test (before cmp q.0 old) (past cmp q.0 old))
        ∙ ap (filter test) ((λ i. before_tied o q.0 t n.1 old i ++ past_tied o q.0 t n.1 old i) ∙ n.2)
  ] new_there

  pub within_both : (s : K) (m : Range K × V) → cmp s m.0.start ≡ Equal
      → filter (λ p. range_contains cmp (Excluded s) (Excluded t) p.0.start) (before cmp s (with_piece cmp piece old) ++ m ∷ past cmp s (with_piece cmp piece old)) ≡ filter (λ p. range_contains cmp (Excluded s) (Excluded t) p.0.start) old
  within_both s m tie =
      let test : Range K × V → Bool = λ p. range_contains cmp (Excluded s) (Excluded t) p.0.start in
      filter_append test (before cmp s (with_piece cmp piece old)) (m ∷ past cmp s (with_piece cmp piece old))
      ∙ (λ i. (filter_both test (λ (p : Range K × V). not (is_le (cmp s p.0.start))) (λ (p : Range K × V). false) (λ p. none_before (cmp s p.0.start) (is_le (cmp t p.0.start))) (with_piece cmp piece old) ∙ filter_no (with_piece cmp piece old)) i
      ++ cond (is_lt (tie i) && not (is_le (cmp t m.0.start)))
      (m ∷ filter_both test (λ (p : Range K × V). is_lt (cmp s p.0.start)) test (λ p. all_past (cmp s p.0.start) (is_le (cmp t p.0.start))) (with_piece cmp piece old) i)
      (filter_both test (λ (p : Range K × V). is_lt (cmp s p.0.start)) test (λ p. all_past (cmp s p.0.start) (is_le (cmp t p.0.start))) (with_piece cmp piece old) i))
      ∙ within_piece (Excluded s)
