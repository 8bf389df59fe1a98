-- A JSON form without entries, which is never refused.
use Rattle.std.proofs.Common.{◌≡◌, ℕ, Bool, List, [], ◌∷◌, Some, None, sym, ◌∙◌}
use Rattle.std.specs.List.{slice_get}
use Rattle.serde_json.specs.declared.value.Value.{Value}
use Rattle.rangemap_core.specs.Ranges.{RangeKind}
use Rattle.rangemap_formats.specs.Json.{IsFirstFault, Reader, RefusesToRead, list_of}
use Rattle.rangemap_formats.specs.declared.json.Form.{Form}
use Rattle.rangemap_formats.specs.declared.json.ReadError.{ReadError}
use Rattle.rangemap_formats.specs.declared.json.ReadError.TheVariants.{NotAList, BadEntry, BadKey, BadValue, EmptyRange, OutOfMemory, OutOfOrder, Uncoalesced}

module _ {K X V E : Type 0} (k : RangeKind K X) (r : Reader K V E) (eq : V → V → Bool) (form : Form) (v : Value) (none : list_of v ≡ Some []) where
  no_fault : (at : ℕ) (fault : List (X × V) → Value → Type 0) → IsFirstFault k r eq form v at fault → ⊥
  no_fault at fault first = go first.entries (sym none ∙ first.is_list) first.is_there
    where
      go : (entries : List Value) → Some [] ≡ Some entries → slice_get entries at ≡ Some first.entry → ⊥
      go [] e h = cc
      go (entry ∷ entries) e h = cc

  not_a_list : list_of v ≡ None → ⊥
  not_a_list h = cc

  pub never_refused : (error : ReadError E) → RefusesToRead k r eq form v error → ⊥
  never_refused NotAList h = not_a_list h
  never_refused (BadEntry at) h = no_fault at _ h
  never_refused (BadKey at part fault) h = no_fault at _ h
  never_refused (BadValue at fault) h = no_fault at _ h
  never_refused (EmptyRange at) h = no_fault at _ h
  never_refused OutOfMemory h = no_fault h.0 _ h.1
  never_refused (OutOfOrder at) h = no_fault at _ h.1
  never_refused (Uncoalesced at) h = no_fault at _ h.1
