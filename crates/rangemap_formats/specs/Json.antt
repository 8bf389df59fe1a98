-- The JSON form of a list of pairs: what is written of it, and what is read and refused of a value.
-- What a function of the caller may answer is a relation between what it is given and the answer.
use Rattle.std.specs.Prelude.{◌≡◌, ℕ, ⊤, ◌⊎◌, Bool, true, List, [], ◌∷◌, ◌++◌, take, Option, Some, None, slice_get, Result, Ok, Err}
use Rattle.std.specs.List.{AllByRecursion, AllZip}
use Rattle.std.specs.declared.cmp.Ordering.TheVariants.{Equal}
use Rattle.serde_json.specs.declared.value.Value.{Value, out-Value}
use Rattle.serde_json.specs.declared.value.Value.TheOpen.{Value-F}
use Rattle.rangemap_formats.specs.declared.json.Form.{Form}
use Rattle.rangemap_formats.specs.declared.json.Form.TheVariants.{Any, Canonical}
use Rattle.rangemap_formats.specs.declared.json.Part.{Part}
use Rattle.rangemap_formats.specs.declared.json.Part.TheVariants.{Start, End}
use Rattle.rangemap_formats.specs.declared.json.ReadError.{ReadError}
use Rattle.rangemap_formats.specs.declared.json.ReadError.TheVariants.{NotAList, BadEntry, BadKey, BadValue, EmptyRange, OutOfMemory, OutOfOrder, Uncoalesced}
use Rattle.rangemap_formats.specs.declared.json.WriteError.{WriteError}
use Rattle.rangemap_formats.specs.declared.json.WriteError.TheVariants.{Caller, OutOfMemory as NoMemory}
use Rattle.rangemap_core.specs.Ranges.{RangeKind, AreStorable, IsStorable, IsCanonical, IsCanonOf, nothing, override_all, same_pairs}

-- the items of a value that is a list
abbrev pub items_in : Value-F Value → Option (List Value)
items_in Value-F.Null = None
items_in (Value-F.Bool b) = None
items_in (Value-F.Number x) = None
items_in (Value-F.String s) = None
items_in (Value-F.Array v) = Some v.items
items_in (Value-F.Object m) = None

-- the items of a value, if it is a list
abbrev pub list_of : Value → Option (List Value)
list_of v = items_in (out-Value v)

-- ---- entries

-- of the entry v, start, end and value are the parts
abbrev pub Shape : Type 1
Shape = (v start end value : Value) → Type 0

-- `[[start, end], value]`
abbrev pub map_entry : Shape
map_entry v start end value = (range : Value) × (list_of v ≡ Some (range ∷ value ∷ [])) × (list_of range ≡ Some (start ∷ end ∷ []))

-- `[start, end]`, which has no value
abbrev pub set_entry : Shape
set_entry v start end value = list_of v ≡ Some (start ∷ end ∷ [])

-- How an entry is laid out, and what may be answered for a key and for a value by the functions that a caller gives to write.
pub record Writer (K V E : Type 0) : Type 1 where
  pub shape : Shape
  pub key : K → Result Value E → Type 0
  pub value : V → Result Value E → Type 0

-- How an entry is laid out, and what may be answered for the part of a key and for that of a value by the functions that a caller
-- gives to read.
pub record Reader (K V E : Type 0) : Type 1 where
  pub shape : Shape
  pub key : Value → Result K E → Type 0
  pub value : Value → Result V E → Type 0

-- what may be read of a part is read of it each time, up to equality
abbrev pub ReadsAlike : {X E : Type 0} → (X → X → Type 0) → (Value → Result X E → Type 0) → Type 0
ReadsAlike {X} {E} same read = (part : Value) (x : X) → read part (Ok x) → (answer : Result X E) → read part answer → (y : X) × (answer ≡ Ok y) × same x y

-- ---- writing

-- the caller's fault, or none where memory was refused
abbrev pub CallerOr : {E : Type 0} → (E → Type 0) → WriteError E → Type 0
CallerOr P (Caller fault) = P fault
CallerOr P NoMemory = ⊤

module _ {K X V E : Type 0} (k : RangeKind K X) (w : Writer K V E) where
  -- the entry v is what was written of the pair
  pub record IsWritten (pair : X × V) (v : Value) : Type 0 where
    pub start : Value
    pub end : Value
    pub value : Value
    pub shape : w.shape v start end value
    pub start_is : w.key (k.start pair.0) (Ok start)
    pub end_is : w.key (k.end pair.0) (Ok end)
    pub value_is : w.value pair.1 (Ok value)

  -- v is the JSON form of the pairs: the list of what was written of each, in order
  pub record IsForm (pairs : List (X × V)) (v : Value) : Type 0 where
    pub entries : List Value
    pub is_list : list_of v ≡ Some entries
    pub written : AllZip IsWritten pairs entries

  -- each part of the pair was written
  abbrev pub IsWritable : X × V → Type 0
  IsWritable pair = (start end value : Value) × w.key (k.start pair.0) (Ok start) × w.key (k.end pair.0) (Ok end) × w.value pair.1 (Ok value)

  -- a part of the pair was refused, and the parts before it were written
  abbrev pub IsRefusedIn : X × V → E → Type 0
  IsRefusedIn pair fault =
      w.key (k.start pair.0) (Err fault)
      ⊎ ((start : Value) × w.key (k.start pair.0) (Ok start) × w.key (k.end pair.0) (Err fault))
      ⊎ ((start end : Value) × w.key (k.start pair.0) (Ok start) × w.key (k.end pair.0) (Ok end) × w.value pair.1 (Err fault))

  -- a part of some pair was refused, and all that comes before it was written
  pub record IsFirstRefusal (pairs : List (X × V)) (fault : E) : Type 0 where
    pub at : ℕ
    pub pair : X × V
    pub is_there : slice_get pairs at ≡ Some pair
    pub before : AllByRecursion IsWritable (take at pairs)
    pub refused : IsRefusedIn pair fault

  -- why writing was refused
  abbrev pub RefusesToWrite : List (X × V) → WriteError E → Type 0
  RefusesToWrite pairs = CallerOr (IsFirstRefusal pairs)

-- ---- reading

-- the list ends with the item
abbrev pub EndsWith : {A : Type 0} → List A → A → Type 0
EndsWith {A} list item = (front : List A) × (list ≡ front ++ item ∷ [])

module _ {K X V E : Type 0} (k : RangeKind K X) (r : Reader K V E) where
  -- the pair is what was read of the entry v
  pub record IsRead (pair : X × V) (v : Value) : Type 0 where
    pub start : Value
    pub end : Value
    pub value : Value
    pub shape : r.shape v start end value
    pub start_is : r.key start (Ok (k.start pair.0))
    pub end_is : r.key end (Ok (k.end pair.0))
    pub value_is : r.value value (Ok pair.1)

  -- the pairs are what was read of v: it has the shape, and no part was refused
  pub record IsReadOf (pairs : List (X × V)) (v : Value) : Type 0 where
    pub entries : List Value
    pub is_list : list_of v ≡ Some entries
    pub read : AllZip IsRead pairs entries

  -- the entry has no such parts
  abbrev pub IsMisshaped : Value → Type 0
  IsMisshaped v = (start end value : Value) → r.shape v start end value → ⊥

  -- a key was refused; before the end, the start was read
  abbrev pub IsBadKey : Part → E → Value → Type 0
  IsBadKey Start fault v = (start end value : Value) × r.shape v start end value × r.key start (Err fault)
  IsBadKey End fault v = (start end value : Value) × r.shape v start end value × (a : K) × r.key start (Ok a) × r.key end (Err fault)

  -- the value was refused, and the keys were read
  abbrev pub IsBadValue : E → Value → Type 0
  IsBadValue fault v = (start end value : Value) × r.shape v start end value × (a b : K) × r.key start (Ok a) × r.key end (Ok b) × r.value value (Err fault)

  -- all parts were read, and each range between two such keys is empty
  abbrev pub IsEmptyEntry : Value → Type 0
  IsEmptyEntry v = (start end value : Value) × r.shape v start end value × (a b : K) × (u : V) × r.key start (Ok a) × r.key end (Ok b) × r.value value (Ok u) × ((range : X) → k.cmp (k.start range) a ≡ Equal → k.cmp (k.end range) b ≡ Equal → k.IsNonEmpty range → ⊥)

  module _ (eq : V → V → Bool) where
    -- what is asked of the pairs read: that their ranges may be stored, and in the canonical form that they are a canonical list
    abbrev pub Accepts : Form → List (X × V) → Type 0
    Accepts Any pairs = AreStorable k pairs
    Accepts Canonical pairs = IsCanonical k eq pairs

    -- the list is the canonical list of pairs that were read of the entries and are accepted, inserted in order
    pub record IsInserted (form : Form) (entries : List Value) (list : List (X × V)) : Type 0 where
      pub pairs : List (X × V)
      pub read : AllZip IsRead pairs entries
      pub accepted : Accepts form pairs
      pub canon : IsCanonOf k eq (override_all k nothing pairs) list

    -- the list is what is read of v; in the canonical form it is that of the pairs themselves
    pub record IsReading (form : Form) (v : Value) (list : List (X × V)) : Type 0 where
      pub entries : List Value
      pub is_list : list_of v ≡ Some entries
      pub inserted : IsInserted form entries list
      pub same : form ≡ Canonical → same_pairs k eq inserted.pairs list ≡ true

    -- the entry was read as a range that may be stored, which does not lie wholly behind the last of the pairs read before
    abbrev pub IsOutOfOrder : List (X × V) → Value → Type 0
    IsOutOfOrder before v = (pair last : X × V) × IsRead pair v × IsStorable k pair.0 × EndsWith before last × (k.IsBefore last.0 pair.0 → ⊥)

    -- the entry's range touches the last of these pairs, and the values are equal
    abbrev pub IsUncoalesced : List (X × V) → Value → Type 0
    IsUncoalesced before v = (pair last : X × V) × IsRead pair v × IsStorable k pair.0 × EndsWith before last × k.IsBefore last.0 pair.0 × k.Touches last.0 pair.0 × (eq last.1 pair.1 ≡ true)

    -- the entry at the place is the first at fault: those before it were read as pairs that are accepted
    pub record IsFirstFault (form : Form) (v : Value) (at : ℕ) (fault : List (X × V) → Value → Type 0) : Type 0 where
      pub entries : List Value
      pub is_list : list_of v ≡ Some entries
      pub before : List (X × V)
      pub read : AllZip IsRead before (take at entries)
      pub accepted : Accepts form before
      pub entry : Value
      pub is_there : slice_get entries at ≡ Some entry
      pub fails : fault before entry

    -- the entry was read, and is accepted behind the pairs read before: what is left is its insert
    abbrev pub IsToBeInserted : Form → List (X × V) → Value → Type 0
    IsToBeInserted form before v = (pair : X × V) × IsRead pair v × Accepts form (before ++ pair ∷ [])

    -- why reading was refused
    abbrev pub RefusesToRead : Form → Value → ReadError E → Type 0
    RefusesToRead form v NotAList = list_of v ≡ None
    RefusesToRead form v (BadEntry at) = IsFirstFault form v at (λ before entry. IsMisshaped entry)
    RefusesToRead form v (BadKey at part fault) = IsFirstFault form v at (λ before entry. IsBadKey part fault entry)
    RefusesToRead form v (BadValue at fault) = IsFirstFault form v at (λ before entry. IsBadValue fault entry)
    RefusesToRead form v (EmptyRange at) = IsFirstFault form v at (λ before entry. IsEmptyEntry entry)
    -- only an insert takes memory
    RefusesToRead form v OutOfMemory = (at : ℕ) × IsFirstFault form v at (IsToBeInserted form)
    RefusesToRead form v (OutOfOrder at) = (form ≡ Canonical) × IsFirstFault form v at IsOutOfOrder
    RefusesToRead form v (Uncoalesced at) = (form ≡ Canonical) × IsFirstFault form v at IsUncoalesced

    -- Where the functions read each time, as an equal key or value, what they may read, a value that has the shape, whose parts may
    -- all be read and whose pairs the form accepts, is refused for want of memory alone.
    abbrev pub IsRefusedForMemoryAlone : Form → Value → ReadError E → Type 0
    IsRefusedForMemoryAlone form v error =
        ReadsAlike (λ a b. k.cmp a b ≡ Equal) r.key → ReadsAlike (λ a b. eq a b ≡ true) r.value
        → (pairs : List (X × V)) → IsReadOf pairs v → Accepts form pairs → error ≡ OutOfMemory

-- ---- what the functions of maps and of sets make of parts

-- what writes the entries of a map
abbrev pub map_writer : {K V E : Type 0} → (K → Result Value E → Type 0) → (V → Result Value E → Type 0) → Writer K V E
map_writer write_key write_value = record { shape = map_entry; key = write_key; value = write_value }

-- what reads the entries of a map
abbrev pub map_reader : {K V E : Type 0} → (Value → Result K E → Type 0) → (Value → Result V E → Type 0) → Reader K V E
map_reader read_key read_value = record { shape = map_entry; key = read_key; value = read_value }

-- What writes the entries of a set: the unit, which a set has for a value, is written nowhere.
abbrev pub set_writer : {K E : Type 0} → (K → Result Value E → Type 0) → Writer K ⊤ E
set_writer write_key = record { shape = set_entry; key = write_key; value = λ unit answer. (part : Value) × (answer ≡ Ok part) }

-- what reads the entries of a set: the unit is read of every entry
abbrev pub set_reader : {K E : Type 0} → (Value → Result K E → Type 0) → Reader K ⊤ E
set_reader read_key = record { shape = set_entry; key = read_key; value = λ part answer. answer ≡ Ok tt }

-- ---- reading what was written

-- what was written of x is read as the same
abbrev pub ReadsBackAt : {X E F : Type 0} → (X → X → Type 0) → (X → Result Value E → Type 0) → (Value → Result X F → Type 0) → X → Type 0
ReadsBackAt {X} {E} {F} same write read x = (v : Value) → write x (Ok v) → (answer : Result X F) → read v answer → (y : X) × (answer ≡ Ok y) × same x y

-- whatever was written
abbrev pub ReadsBack : {X E F : Type 0} → (X → X → Type 0) → (X → Result Value E → Type 0) → (Value → Result X F → Type 0) → Type 0
ReadsBack {X} same write read = (x : X) → ReadsBackAt same write read x

-- whichever key was written
abbrev pub KeysReadBack : {K X E F : Type 0} → RangeKind K X → (K → Result Value E → Type 0) → (Value → Result K F → Type 0) → Type 0
KeysReadBack {K} k write read = (x : K) → k.is_key x → ReadsBackAt (λ a b. k.cmp a b ≡ Equal) write read x
