-- Where there is nothing to put behind a list.
use Rattle.std.proofs.Common.{◌≡◌, Bool, true, List, [], ◌∷◌, ◌++◌, append-nil, refl, subst, sym, ap, ◌∙◌, true≢false}
use Rattle.rangemap_core.specs.Appends.{Appends}
use Rattle.rangemap_core.specs.Ranges.{RangeKind, same_pairs}
use Rattle.rangemap_core.proofs.AppendLemmas.{AppendsSoFar}

module _ {K X V : Type 0} (k : RangeKind K X) (eq : V → V → Bool) where
  -- no pairs put behind it leave it as it was
  pub appended_none : (pairs old new : List (X × V)) → pairs ≡ [] → Appends k eq pairs old new → new ≡ old
  appended_none pairs old new none h = h.1 ∙ ap (λ xs. old ++ xs) (no_more h.0 (subst (λ ps. same_pairs k eq ps h.0 ≡ true) none h.2)) ∙ append-nil old
    where
      no_more : (more : List (X × V)) → same_pairs k eq [] more ≡ true → more ≡ []
      no_more [] e = refl
      no_more (p ∷ ps) e = absurd (true≢false (sym e))

  -- no pair of none is still to come
  pub none_to_come : (all rest old new : List (X × V)) (pair : X × V) (others : List (X × V)) → all ≡ [] → AppendsSoFar k eq all rest old new → rest ≡ pair ∷ others → ⊥
  none_to_come all rest old new pair others none h is = go h.0 (sym none ∙ h.1 ∙ ap (λ xs. h.0 ++ xs) is)
    where
      go : (taken : List (X × V)) → [] ≡ taken ++ pair ∷ others → ⊥
      go [] e = cc
      go (t ∷ ts) e = cc
