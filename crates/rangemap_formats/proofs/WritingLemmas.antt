-- The entries of pairs that are written one after another.
use Rattle.std.proofs.Common.{◌≡◌, ℕ, List, [], ◌∷◌, ◌++◌, length, take, Some, Ok, Err, inl, inr, append_assoc, append-nil, refl, sym, ap, subst, ◌∙◌}
use Rattle.std.proofs.Math.Seq.{take-append_seam}
use Rattle.std.specs.List.{AllByRecursion, AllZip, slice_get}
use Rattle.serde_json.specs.declared.value.Value.{Value}
use Rattle.rangemap_formats.specs.Json.{CallerOr, IsFirstRefusal, IsRefusedIn, IsWritable, IsWritten, Writer}
use Rattle.rangemap_formats.specs.declared.json.WriteError.{WriteError}
use Rattle.rangemap_formats.specs.declared.json.WriteError.TheVariants.{Caller, OutOfMemory as NoMemory}
use Rattle.rangemap_core.specs.Ranges.{RangeKind}
use Rattle.rangemap_core.proofs.ZipLemmas.{added}

behind : {A : Type 0} (front : List A) (a : A) (rest : List A) → slice_get (front ++ a ∷ rest) (length front) ≡ Some a
behind [] a rest = refl
behind (b ∷ front) a rest = behind front a rest

-- a fault of the caller's that says more
pub caller_weaker : {E : Type 0} (P Q : E → Type 0) → ((fault : E) → P fault → Q fault) → (error : WriteError E) → CallerOr P error → CallerOr Q error
caller_weaker P Q step (Caller fault) h = step fault h
caller_weaker P Q step NoMemory h = tt

module _ {K X V E : Type 0} (k : RangeKind K X) (w : Writer K V E) where
  -- what was written can be
  written_all : (pairs : List (X × V)) (entries : List Value) → AllZip (IsWritten k w) pairs entries → AllByRecursion (IsWritable k w) pairs
  written_all [] entries h = tt
  written_all (a ∷ pairs) [] h = absurd h
  written_all (a ∷ pairs) (v ∷ entries) h = ((h.0.start, h.0.end, h.0.value, h.0.start_is, h.0.end_is, h.0.value_is), written_all pairs entries h.1)

  module _ (pair : X × V) (start : K) (starts : start ≡ k.start pair.0) where
    -- the start was refused
    pub start_refused : (fault : E) → w.key start (Err fault) → IsRefusedIn k w pair fault
    start_refused fault h = inl (subst (λ x. w.key x (Err fault)) starts h)

    module _ (s : Value) (start_is : w.key start (Ok s)) (end : K) (ends : end ≡ k.end pair.0) where
      -- or the end
      pub end_refused : (fault : E) → w.key end (Err fault) → IsRefusedIn k w pair fault
      end_refused fault h = inr (inl (s, subst (λ x. w.key x (Ok s)) starts start_is, subst (λ x. w.key x (Err fault)) ends h))

      module _ (t : Value) (end_is : w.key end (Ok t)) (value : V) (values : value ≡ pair.1) where
        -- or the value
        pub value_refused : (fault : E) → w.value value (Err fault) → IsRefusedIn k w pair fault
        value_refused fault h = inr (inr (s, t, subst (λ x. w.key x (Ok s)) starts start_is, subst (λ x. w.key x (Ok t)) ends end_is, subst (λ x. w.value x (Err fault)) values h))

        -- or all were written
        pub parts_written : (part entry : Value) → w.value value (Ok part) → w.shape entry s t part → IsWritten k w pair entry
        parts_written part entry value_is shape = record {
          start = s;
          end = t;
          value = part;
          shape = shape;
          start_is = subst (λ x. w.key x (Ok s)) starts start_is;
          end_is = subst (λ x. w.key x (Ok t)) ends end_is;
          value_is = subst (λ x. w.value x (Ok part)) values value_is;
        }

  -- the first refusal of a list, from that of a pair
  refused_part : (pairs : List (X × V)) (at : ℕ) (pair : X × V) → slice_get pairs at ≡ Some pair → AllByRecursion (IsWritable k w) (take at pairs)
      → (error : WriteError E) → CallerOr (IsRefusedIn k w pair) error → CallerOr (IsFirstRefusal k w pairs) error
  refused_part pairs at pair there before (Caller fault) h = record { at = at; pair = pair; is_there = there; before = before; refused = h }
  refused_part pairs at pair there before NoMemory h = tt

  -- of all pairs some were written as these entries, and the others are still to come
  abbrev pub WrittenSoFar : List (X × V) → List (X × V) → List Value → Type 0
  WrittenSoFar all rest entries = (front : List (X × V)) × (all ≡ front ++ rest) × AllZip (IsWritten k w) front entries

  pub so_far-none : (all : List (X × V)) → WrittenSoFar all all []
  so_far-none all = ([], refl, tt)

  module _ (all rest : List (X × V)) (entries : List Value) (so_far : WrittenSoFar all rest entries) where
    -- none is still to come
    pub so_far-all : rest ≡ [] → AllZip (IsWritten k w) all entries
    so_far-all is = subst (λ (pairs : List (X × V)). AllZip (IsWritten k w) pairs entries) (sym (so_far.1 ∙ ap (λ xs. so_far.0 ++ xs) is ∙ append-nil so_far.0)) so_far.2

    module _ (pair : X × V) (others : List (X × V)) (is : rest ≡ pair ∷ others) where
      split : all ≡ so_far.0 ++ pair ∷ others
      split = so_far.1 ∙ ap (λ xs. so_far.0 ++ xs) is

      -- one more was written
      pub so_far-next : (entry : Value) → IsWritten k w pair entry → WrittenSoFar all others (entries ++ entry ∷ [])
      so_far-next entry written = (so_far.0 ++ pair ∷ [], split ∙ sym (append_assoc so_far.0 (pair ∷ []) others), added (IsWritten k w) so_far.0 entries pair entry so_far.2 written)

      -- or it was refused
      pub so_far-refused : (error : WriteError E) → CallerOr (IsRefusedIn k w pair) error → CallerOr (IsFirstRefusal k w all) error
      so_far-refused error refused =
          refused_part all (length so_far.0) pair (ap (λ xs. slice_get xs (length so_far.0)) split ∙ behind so_far.0 pair others)
          (subst (λ (pairs : List (X × V)). AllByRecursion (IsWritable k w) pairs) (sym (ap (λ xs. take (length so_far.0) xs) split ∙ take-append_seam so_far.0 (pair ∷ others)))
          (written_all so_far.0 entries so_far.2)) error refused
