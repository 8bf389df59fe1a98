-- What reading entries one after another comes to.
use Rattle.std.proofs.Common.{arith, ◌≡◌, ℕ, zero, suc, ◌<◌, Bool, true, false, true≢false, List, [], ◌∷◌, ◌++◌, length, take, get_or, Option, Some, refl, sym, ap, subst, ◌∙◌}
use Rattle.std.specs.Cmp.{IsEquivalence}
use Rattle.std.specs.Cmp as order
use Rattle.std.specs.declared.cmp.Ordering.TheVariants.{Equal}
use Rattle.std.specs.List.{slice_get}
use Rattle.serde_json.specs.declared.value.Value.{Value}
use Rattle.rangemap_formats.specs.declared.json.Form.{Form}
use Rattle.rangemap_formats.specs.declared.json.Form.TheVariants.{Any, Canonical}
use Rattle.rangemap_formats.specs.declared.json.ReadError.{ReadError}
use Rattle.rangemap_formats.specs.declared.json.ReadError.TheVariants.{NotAList, BadEntry, BadKey, BadValue, EmptyRange, OutOfMemory, OutOfOrder, Uncoalesced}
use Rattle.rangemap_core.specs.Ranges.{RangeKind, AreStorable, IsStorable, IsCanonical, IsCanonOf, nothing, override, override_all, same_pairs, value_at}
use Rattle.rangemap_core.specs.engine.Endpoints.{EndpointOf, IsPlaced}
use Rattle.rangemap_core.specs.engine.Intervals.{IsInterval, goes_past, reaches}
use Rattle.rangemap_formats.specs.Entries.{Breaks, Follows, IsEntryFault}
use Rattle.rangemap_formats.specs.Json.{Accepts, EndsWith, IsFirstFault, IsInserted, IsRead, IsToBeInserted, Reader, RefusesToRead, list_of}
use Rattle.rangemap_formats.proofs.LastPairLemmas.{before_as_twin, before_as_twin_back, canonical_more, equal_as_twin, follows_as_twin, last_storable, same_last, touches_as_twin_back}
use Rattle.rangemap_core.proofs.CanonLemmas.{Overrides-last}
use Rattle.rangemap_core.proofs.EqualListLemmas.{IsSamePair}
use Rattle.rangemap_core.proofs.OwnPairLemmas.{own}
use Rattle.rangemap_core.proofs.UniquenessLemmas.{canon_unique}
use Rattle.rangemap_core.proofs.ZipLemmas.{added}

-- where no range goes from a to b, one whose ends tie with these is empty
pub empty_between : {K X : Type 0} (k : RangeKind K X) (has_end : Bool) → IsInterval k has_end → (a b : K) → reaches k has_end b a ≡ false
    → (range : X) → k.cmp (k.start range) a ≡ Equal → k.cmp (k.end range) b ≡ Equal → k.IsNonEmpty range → ⊥
empty_between k has_end i a b none range start_is end_is n =
    let alike : k.cmp (k.start range) (k.end range) ≡ k.cmp a b = i.total.congr (k.start range) a (k.end range) start_is ∙ order.alike_right i.total (k.end range) b a end_is in
    true≢false (sym (i.non_empty range n) ∙ ap (goes_past has_end) alike ∙ none)

-- the item at a place, as an option
pub at_place : {A : Type 0} (xs : List A) (i : ℕ) (x : A) → i < length xs → x ≡ get_or xs i x → slice_get xs i ≡ Some x
at_place [] i x l is = absurd (omega arith)
at_place (a ∷ xs) zero x l is = ap Some (sym is)
at_place (a ∷ xs) (suc i) x l is = at_place xs i x (omega arith) is

module _ {K X V E : Type 0} (k : RangeKind K X) {end_place : X → Option K} {part : EndpointOf X → EndpointOf X → X} (p : IsPlaced k end_place part) (eq : V → V → Bool) (e : IsEquivalence eq) (r : Reader K V E) where
  accepts_none : (form : Form) → Accepts k r eq form []
  accepts_none Any = tt
  accepts_none Canonical = tt

  -- nothing was read yet
  pub Inserted-none : (form : Form) (list : List (X × V)) → list ≡ [] → IsInserted k r eq form [] list
  Inserted-none form list is = record {
    pairs = [];
    read = tt;
    accepted = accepts_none form;
    canon = subst (IsCanonOf k eq nothing) (sym is) (own k p eq e [] tt);
  }

  storable_more : (list : List (X × V)) (pair : X × V) → AreStorable k list → IsStorable k pair.0 → AreStorable k (list ++ pair ∷ [])
  storable_more [] pair a n = (n, tt)
  storable_more (b ∷ list) pair a n = (a.0, storable_more list pair a.1 n)

  module _ (form : Form) (entries : List Value) (list : List (X × V)) (i : IsInserted k r eq form entries list) where
    -- in the canonical form the list is that of the pairs read
    pub Inserted-same : form ≡ Canonical → same_pairs k eq i.pairs list ≡ true
    Inserted-same is = canon_unique k p eq e (override_all k nothing i.pairs) i.pairs list (own k p eq e i.pairs (subst (λ f. Accepts k r eq f i.pairs) is i.accepted)) i.canon

    module _ (entry : Value) (pair : X × V) (read : IsRead k r pair entry) (stored : IsStorable k pair.0) where
      accepts_more : (f : Form) → form ≡ f → (f ≡ Canonical → (last : X × V) → EndsWith list last → Follows k eq last pair) → Accepts k r eq f (i.pairs ++ pair ∷ [])
      accepts_more Any is follows = storable_more i.pairs pair (subst (λ f. Accepts k r eq f i.pairs) is i.accepted) stored
      accepts_more Canonical is follows =
          let c : IsCanonical k eq i.pairs = subst (λ f. Accepts k r eq f i.pairs) is i.accepted in
          canonical_more k eq i.pairs pair c stored
          (λ last at_end.
          let turned : same_pairs k eq list i.pairs ≡ true = canon_unique k p eq e (override_all k nothing i.pairs) list i.pairs i.canon (own k p eq e i.pairs c) in
          let twin = same_last k eq at_end.0 last list (subst (λ (xs : List (X × V)). same_pairs k eq list xs ≡ true) at_end.1 turned) in
          follows_as_twin k p eq e twin.0 last twin.2
          (last_storable k eq twin.1.0 twin.0 (subst (IsCanonical k eq) twin.1.1 i.canon.canonical))
          (last_storable k eq at_end.0 last (subst (IsCanonical k eq) at_end.1 c))
          pair stored (follows refl twin.0 twin.1))

      -- one entry more
      pub Inserted-more : (new : List (X × V)) → (form ≡ Canonical → (last : X × V) → EndsWith list last → Follows k eq last pair) → IsCanonOf k eq (override k (value_at k list) pair.0 pair.1) new → IsInserted k r eq form (entries ++ entry ∷ []) new
      Inserted-more new follows more = record {
        pairs = i.pairs ++ pair ∷ [];
        read = added (IsRead k r) i.pairs entries pair entry i.read read;
        accepted = accepts_more form refl follows;
        canon = Overrides-last k e [] list new i.pairs pair i.canon more;
      }

  module _ (form : Form) (v : Value) (entries : List Value) (is_list : list_of v ≡ Some entries) (at : ℕ) (list : List (X × V)) (i : IsInserted k r eq form (take at entries) list)
      (entry : Value) (is_there : slice_get entries at ≡ Some entry) where
    first_fault : (place : ℕ) → place ≡ at → (fault : List (X × V) → Value → Type 0) → fault i.pairs entry → IsFirstFault k r eq form v place fault
    first_fault place is fault fails = subst (λ n. IsFirstFault k r eq form v n fault) (sym is) (record {
      entries = entries;
      is_list = is_list;
      before = i.pairs;
      read = i.read;
      accepted = i.accepted;
      entry = entry;
      is_there = is_there;
      fails = fails;
    })

    -- the entry alone is at fault
    pub refused_entry : (error : ReadError E) → IsEntryFault k r at entry error → RefusesToRead k r eq form v error
    refused_entry NotAList h = absurd h
    refused_entry (BadEntry place) h = first_fault place h.0 _ h.1
    refused_entry (BadKey place part fault) h = first_fault place h.0 _ h.1
    refused_entry (BadValue place fault) h = first_fault place h.0 _ h.1
    refused_entry (EmptyRange place) h = first_fault place h.0 _ h.1
    refused_entry OutOfMemory h = absurd h
    refused_entry (OutOfOrder place) h = absurd h
    refused_entry (Uncoalesced place) h = absurd h

    -- or its insert was refused
    pub refused_insert : (pair : X × V) → IsRead k r pair entry → IsStorable k pair.0 → (form ≡ Canonical → (last : X × V) → EndsWith list last → Follows k eq last pair) → RefusesToRead k r eq form v OutOfMemory
    refused_insert pair read stored follows =
        (at, first_fault at refl (IsToBeInserted k r eq form) (pair, read, accepts_more form (take at entries) list i entry pair read stored form refl follows))

    -- the pairs read end with a twin of the last that is stored
    twin_of : form ≡ Canonical → (last : X × V) → EndsWith list last → (twin : X × V) × EndsWith i.pairs twin × IsSamePair k eq twin last × IsStorable k twin.0 × IsStorable k last.0
    twin_of is last at_end =
        let c : IsCanonical k eq i.pairs = subst (λ f. Accepts k r eq f i.pairs) is i.accepted in
        let found = same_last k eq at_end.0 last i.pairs (subst (λ (xs : List (X × V)). same_pairs k eq i.pairs xs ≡ true) at_end.1 (Inserted-same form (take at entries) list i is)) in (
          found.0,
          found.1,
          found.2,
          last_storable k eq found.1.0 found.0 (subst (IsCanonical k eq) found.1.1 c),
          last_storable k eq at_end.0 last (subst (IsCanonical k eq) at_end.1 i.canon.canonical),
        )

    -- or beside the entry before it
    pub refused_order : (pair : X × V) → IsRead k r pair entry → IsStorable k pair.0 → form ≡ Canonical → (last : X × V) → EndsWith list last → (error : ReadError E) → Breaks k eq at last pair error → RefusesToRead k r eq form v error
    refused_order pair read stored is last at_end NotAList h = absurd h
    refused_order pair read stored is last at_end (BadEntry place) h = absurd h
    refused_order pair read stored is last at_end (BadKey place part fault) h = absurd h
    refused_order pair read stored is last at_end (BadValue place fault) h = absurd h
    refused_order pair read stored is last at_end (EmptyRange place) h = absurd h
    refused_order pair read stored is last at_end OutOfMemory h = absurd h
    refused_order pair read stored is last at_end (OutOfOrder place) h =
        let t = twin_of is last at_end in (
          is,
          first_fault place h.0 _ (pair, t.0, read, stored, t.1, λ b. h.1 (before_as_twin k p eq e t.0 last t.2 t.3 t.4 pair stored b)),
        )
    refused_order pair read stored is last at_end (Uncoalesced place) h =
        let t = twin_of is last at_end in (
          is,
          first_fault place h.0 _ (
            pair,
            t.0,
            read,
            stored,
            t.1,
            before_as_twin_back k p eq e t.0 last t.2 t.3 t.4 pair stored h.1,
            touches_as_twin_back k p eq e t.0 last t.2 t.3 t.4 pair stored h.2,
            equal_as_twin k p eq e t.0 last t.2 t.3 t.4 pair stored ∙ h.3,
          ),
        )
