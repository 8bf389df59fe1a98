-- Two equal maps that were changed in ways that make alike functions are equal again.
use Rattle.std.proofs.Common.{◌≡◌, ◌∙◌, Bool, true, false, ◌&&◌, List, Option, ap, is_lt, refl, sym}
use Rattle.std.specs.Cmp.{IsEquivalence}
use Rattle.rangemap_core.specs.engine.Endpoints.{AtEnd, AtStart, EndpointOf, IsAsked, IsPlaced}
use Rattle.rangemap_core.specs.laws.Orders.{eq_turn}
use Rattle.rangemap_core.specs.MadeRanges.{IsSame}
use Rattle.rangemap_core.specs.Ranges.{RangeKind, Alike, IsCanonOf, IsCanonical, IsStorable, erase, override, same_pair, same_pairs, value_at}
use Rattle.rangemap_core.proofs.AlikeLemmas.{Alike-itself, Alike-through, Alike-turned, canon_along, erase-alike, erase-override, override-alike, override-override, override-swapped}
use Rattle.rangemap_core.proofs.CanonLemmas.{erase_of, override_of}
use Rattle.rangemap_core.proofs.EndpointLemmas.{part_spans}
use Rattle.rangemap_core.proofs.EqualListLemmas.{from_same}
use Rattle.rangemap_core.proofs.UniquenessLemmas.{alike_from_same, canon_unique, same_points}

module _ {K X V : Type 0} (k : RangeKind K X) {end_place : X → Option K} {part : EndpointOf X → EndpointOf X → X} (p : IsPlaced k end_place part) {eq : V → V → Bool} (e : IsEquivalence eq) where
  stored : (r : X) → IsAsked k r → k.IsNonEmpty r → IsStorable k r
  stored r asked non_empty = record { start_is_key = asked.start_is_key; end_is_key = asked.end_is_key; non_empty = non_empty }

  -- a clone of a range, with an equal value, makes an alike function
  pub override_by_clone : (old new : List (X × V)) (given copy : X × V) → IsAsked k given.0 → k.IsNonEmpty given.0 → IsStorable k copy.0 → same_pair k eq given copy ≡ true
      → IsCanonOf k eq (override k (value_at k old) copy.0 copy.1) new → IsCanonOf k eq (override k (value_at k old) given.0 given.1) new
  override_by_clone old new given copy asked non_empty storable same c =
      let both = from_same k eq given copy same in
      canon_along k e (override k (value_at k old) copy.0 copy.1) (override k (value_at k old) given.0 given.1) new
      (override-alike k e (value_at k old) (value_at k old) copy.0 given.0 copy.1 given.1
      (λ x key. sym (same_points k p given.0 copy.0 x (stored given.0 asked non_empty) storable key both.starts both.ends)) (e.symm copy.1 given.1 ∙ both.values) (Alike-itself k e (value_at k old))) c

  -- the part from a range's start up to its end makes an alike function
  pub erase_by_clone : (old new : List (X × V)) (r copy : X) → IsAsked k r → k.IsNonEmpty r → IsSame k (part (AtStart r) (AtEnd r)) copy
      → IsCanonOf k eq (erase k (value_at k old) copy) new → IsCanonOf k eq (erase k (value_at k old) r) new
  erase_by_clone old new r copy asked non_empty same c =
      let given = stored r asked non_empty in
      let cut = part_spans p (AtStart r) (AtEnd r) copy asked asked (ap is_lt (p.non_empty r given)) same in
      canon_along k e (erase k (value_at k old) copy) (erase k (value_at k old) r) new
      (erase-alike k e (value_at k old) (value_at k old) copy r
      (λ x key. sym (same_points k p r copy x given cut.storable key (eq_turn p.total cut.from) (eq_turn p.total (p.ends _ _ cut.storable given ∙ cut.to)))) (Alike-itself k e (value_at k old))) c

  -- lists of alike functions
  equal_lists : (f g : K → Option V) (ls ms : List (X × V)) → Alike k eq f g → IsCanonOf k eq f ls → IsCanonOf k eq g ms → same_pairs k eq ls ms ≡ true
  equal_lists f g ls ms h cl cm = canon_unique k p eq e f ls ms cl (canon_along k e g f ms (Alike-turned k e f g h) cm)

  module _ (one other : List (X × V)) (can_one : IsCanonical k eq one) (can_other : IsCanonical k eq other) (same : same_pairs k eq one other ≡ true) (new more : List (X × V)) (r : X) (v : V) where
    abbrev f : K → Option V
    f = value_at k one

    abbrev g : K → Option V
    g = value_at k other

    before : Alike k eq f g
    before = alike_from_same k p eq e one other can_one can_other same

    inserted : Alike k eq (override k f r v) (override k g r v)
    inserted = override-alike k e f g r r v v (λ x key. refl) (e.refl v) before

    removed : Alike k eq (erase k f r) (erase k g r)
    removed = erase-alike k e f g r r (λ x key. refl) before

    -- the insert was made once into the one, and into the other once and then once more
    pub equal_after_twice : (once : List (X × V)) → IsCanonOf k eq (override k f r v) new → IsCanonOf k eq (override k g r v) once → IsCanonOf k eq (override k (value_at k once) r v) more → same_pairs k eq new more ≡ true
    equal_after_twice once first second last =
        equal_lists (override k f r v) (override k (override k g r v) r v) new more
        (Alike-through k e (override k f r v) (override k g r v) (override k (override k g r v) r v) inserted
        (Alike-turned k e (override k (override k g r v) r v) (override k g r v) (override-override k e g r v)))
        first (override_of k e (override k g r v) r once more second v last)

    -- the range was removed from the one after an insert, and from the other at once
    pub equal_after_remove : (once : List (X × V)) → IsCanonOf k eq (override k f r v) once → IsCanonOf k eq (erase k (value_at k once) r) new → IsCanonOf k eq (erase k g r) more → same_pairs k eq new more ≡ true
    equal_after_remove once first second =
        equal_lists (erase k (override k f r v) r) (erase k g r) new more
        (Alike-through k e (erase k (override k f r v) r) (erase k f r) (erase k g r) (erase-override k e f r v) removed)
        (erase_of k e (override k f r v) r once new first second)

    pub equal_after_both : (s : X) (w : V) → ((x : K) → k.is_key x → (k.holds r x && k.holds s x) ≡ false)
        → IsCanonOf k eq (override k (override k f r v) s w) new → IsCanonOf k eq (override k (override k g s w) r v) more → same_pairs k eq new more ≡ true
    equal_after_both s w apart =
        equal_lists (override k (override k f r v) s w) (override k (override k g s w) r v) new more
        (Alike-through k e (override k (override k f r v) s w) (override k (override k g r v) s w) (override k (override k g s w) r v)
        (override-alike k e (override k f r v) (override k g r v) s s w w (λ x key. refl) (e.refl w) inserted)
        (override-swapped k e g r s v w apart))
