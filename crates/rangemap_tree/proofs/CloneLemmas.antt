-- What clones of a tree's entries are, and of its pairs.
use Rattle.std.proofs.Common.{◌≡◌, Bool, true, List, [], ◌∷◌, refl, ◌∙◌, ◌&&◌, Ordering}
use Rattle.std.specs.Cmp.{IsTotalOrder}
use Rattle.std.specs.List.{AllZip}
use Rattle.std.specs.Map.{values_of}
use Rattle.std.specs.declared.ops.Range.{Range}
use Rattle.rangemap_core.specs.Clones.{KeysCloneFaithfully, ValuesCloneFaithfully}
use Rattle.rangemap_core.specs.laws.Orders.{lt_eq}
use Rattle.rangemap_core.specs.Ranges.{half_open, IsCanonical, IsStorable, same_pairs}
use Rattle.rangemap_core.specs.engine.Stretch.{Every}
use Rattle.rangemap_core.proofs.EqualListLemmas.{to_same}
use Rattle.rangemap_tree.specs.Starts.{AreClones, AreKeyed}
use Rattle.rangemap_tree.proofs.StartLemmas.{turned}

module _ {K V : Type 0} (key : K → K → Type 0) (value : V → V → Type 0) where
  abbrev EntryClones : List (K × (Range K × V)) → List (K × (Range K × V)) → Type 0
  EntryClones es fs = AllZip (λ (p q : K × (Range K × V)). key p.0 q.0 × ((key p.1.0.start q.1.0.start × key p.1.0.end q.1.0.end) × value p.1.1 q.1.1)) es fs

  pub cloned_values : (es fs : List (K × (Range K × V))) → EntryClones es fs → AreClones key value (values_of es) (values_of fs)
  cloned_values [] [] h = tt
  cloned_values [] (f ∷ fs) h = h
  cloned_values (e ∷ es) [] h = h
  cloned_values (e ∷ es) (f ∷ fs) h = (h.0.1, cloned_values es fs h.1)

  module _ {cmp : K → K → Ordering} (o : IsTotalOrder cmp) (faithful : KeysCloneFaithfully key cmp) where
    pub cloned_keyed : (es fs : List (K × (Range K × V))) → EntryClones es fs → AreKeyed cmp es → AreKeyed cmp fs
    cloned_keyed [] [] h k = tt
    cloned_keyed [] (f ∷ fs) h k = absurd h
    cloned_keyed (e ∷ es) [] h k = absurd h
    cloned_keyed (e ∷ es) (f ∷ fs) h k =
        (o.congr f.0 e.0 f.1.0.start (turned o e.0 f.0 (faithful e.0 f.0 h.0.0)) ∙ (o.congr e.0 e.1.0.start f.1.0.start k.0 ∙ faithful e.1.0.start f.1.0.start h.0.1.0.0), cloned_keyed es fs h.1 k.1)

module _ {K V : Type 0} (key : K → K → Type 0) (value : V → V → Type 0) {cmp : K → K → Ordering} (o : IsTotalOrder cmp) (faithful : KeysCloneFaithfully key cmp) where
  pub cloned_same : (eq : V → V → Bool) → ValuesCloneFaithfully value eq → (ps qs : List (Range K × V)) → AreClones key value ps qs → same_pairs (half_open cmp) eq ps qs ≡ true
  cloned_same eq f [] [] h = refl
  cloned_same eq f [] (q ∷ qs) h = absurd h
  cloned_same eq f (p ∷ ps) [] h = absurd h
  cloned_same eq f (p ∷ ps) (q ∷ qs) h = λ i. to_same (half_open cmp) eq p q (record { starts = faithful p.0.start q.0.start h.0.0.0; ends = faithful p.0.end q.0.end h.0.0.1; values = f p.1 q.1 h.0.1 }) i && cloned_same eq f ps qs h.1 i

  pub cloned_storable : (eq : V → V → Bool) → (ps qs : List (Range K × V)) → IsCanonical (half_open cmp) eq ps → AreClones key value ps qs → Every (λ (a : Range K × V). IsStorable (half_open cmp) a.0) qs
  cloned_storable eq [] [] c h = tt
  cloned_storable eq [] (q ∷ qs) c h = absurd h
  cloned_storable eq (p ∷ ps) [] c h = absurd h
  cloned_storable eq (p ∷ ps) (q ∷ qs) c h =
      (record { start_is_key = tt; end_is_key = tt; non_empty = o.congr q.0.start p.0.start q.0.end (turned o p.0.start q.0.start (faithful p.0.start q.0.start h.0.0.0)) ∙ lt_eq o {a = p.0.start} {b = p.0.end} {c = q.0.end} c.0.non_empty (faithful p.0.end q.0.end h.0.0.1) }, cloned_storable eq ps qs c.2 h.1)
