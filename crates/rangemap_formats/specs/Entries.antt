-- What is said, of private functions alone, of one entry: that it is read in one way, its own fault, and whether its pair may stand
-- behind the last.
use Rattle.std.specs.Prelude.{◌≡◌, ℕ, Bool, true, false, Result}
use Rattle.serde_json.specs.declared.value.Value.{Value}
use Rattle.rangemap_formats.specs.declared.json.ReadError.{ReadError}
use Rattle.rangemap_formats.specs.declared.json.ReadError.TheVariants.{NotAList, BadEntry, BadKey, BadValue, EmptyRange, OutOfMemory, OutOfOrder, Uncoalesced}
use Rattle.rangemap_core.specs.Ranges.{RangeKind}
use Rattle.rangemap_formats.specs.Json.{IsBadKey, IsBadValue, IsEmptyEntry, IsMisshaped, Reader}

-- an entry has one start and one end, and what is read for its value is fixed
pub record IsUnambiguous {K V E : Type 0} (r : Reader K V E) : Type 0 where
  pub start : (v s t c s' t' c' : Value) → r.shape v s t c → r.shape v s' t' c' → s ≡ s'
  pub end : (v s t c s' t' c' : Value) → r.shape v s t c → r.shape v s' t' c' → t ≡ t'
  pub value : (v s t c s' t' c' : Value) → r.shape v s t c → r.shape v s' t' c' → (answer : Result V E) → r.value c answer → r.value c' answer

module _ {K X V E : Type 0} (k : RangeKind K X) (r : Reader K V E) where
  -- a fault of the entry at the place, whatever comes before it
  abbrev pub IsEntryFault : ℕ → Value → ReadError E → Type 0
  IsEntryFault at v NotAList = ⊥
  IsEntryFault at v (BadEntry place) = (place ≡ at) × IsMisshaped k r v
  IsEntryFault at v (BadKey place part fault) = (place ≡ at) × IsBadKey k r part fault v
  IsEntryFault at v (BadValue place fault) = (place ≡ at) × IsBadValue k r fault v
  IsEntryFault at v (EmptyRange place) = (place ≡ at) × IsEmptyEntry k r v
  IsEntryFault at v OutOfMemory = ⊥
  IsEntryFault at v (OutOfOrder place) = ⊥
  IsEntryFault at v (Uncoalesced place) = ⊥

module _ {K X V : Type 0} (k : RangeKind K X) (eq : V → V → Bool) where
  -- the pair may stand behind the last of a canonical list
  pub record Follows (last pair : X × V) : Type 0 where
    pub before : k.IsBefore last.0 pair.0
    pub differs : k.Touches last.0 pair.0 → eq last.1 pair.1 ≡ false

  -- it may not, by its order or since the two would be one
  abbrev pub Breaks : {E : Type 0} → ℕ → X × V → X × V → ReadError E → Type 0
  Breaks at last pair NotAList = ⊥
  Breaks at last pair (BadEntry place) = ⊥
  Breaks at last pair (BadKey place part fault) = ⊥
  Breaks at last pair (BadValue place fault) = ⊥
  Breaks at last pair (EmptyRange place) = ⊥
  Breaks at last pair OutOfMemory = ⊥
  Breaks at last pair (OutOfOrder place) = (place ≡ at) × (k.IsBefore last.0 pair.0 → ⊥)
  Breaks at last pair (Uncoalesced place) = (place ≡ at) × k.IsBefore last.0 pair.0 × k.Touches last.0 pair.0 × (eq last.1 pair.1 ≡ true)
