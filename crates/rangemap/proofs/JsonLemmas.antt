-- For callers who say in words of their own what their functions for keys and values may answer: what these words say is said of the
-- JSON form too. Lemmas that begin with `set` are for sets, whose value is the unit.
use Rattle.std.proofs.Common.{◌∷◌, [], ◌≡◌, ℕ, inl, inr, Bool, List, Result, Ok, Err, refl, take}
use Rattle.std.specs.Bool.{⊤}
use Rattle.std.specs.List.{AllZip}
use Rattle.serde_json.specs.declared.value.Value.{Value}
use Rattle.rangemap_formats.specs.Json.{IsBadKey, IsFirstFault, IsForm, IsRead, IsReading, IsRefusedForMemoryAlone, IsWritten, Reader, RefusesToRead, RefusesToWrite, Writer, map_reader, map_writer, set_reader, set_writer}
use Rattle.rangemap_core.specs.Ranges.{RangeKind}
use Rattle.rangemap_formats.specs.declared.json.Form.{Form}
use Rattle.rangemap_formats.specs.declared.json.Part.{Part}
use Rattle.rangemap_formats.specs.declared.json.Part.TheVariants.{End, Start}
use Rattle.rangemap_formats.specs.declared.json.ReadError.{ReadError}
use Rattle.rangemap_formats.specs.declared.json.ReadError.TheVariants.{BadEntry, BadKey, BadValue, EmptyRange, NotAList, OutOfMemory, OutOfOrder, Uncoalesced}
use Rattle.rangemap_formats.specs.declared.json.WriteError.{WriteError}
use Rattle.rangemap_formats.specs.declared.json.WriteError.TheVariants.{Caller, OutOfMemory as NoMemory}

zip_weaker : {A B : Type 0} {P Q : A → B → Type 0} → ((a : A) (b : B) → P a b → Q a b) → (xs : List A) (ys : List B) → AllZip P xs ys → AllZip Q xs ys
zip_weaker weaker [] [] h = h
zip_weaker weaker [] (y ∷ ys) h = h
zip_weaker weaker (x ∷ xs) [] h = h
zip_weaker weaker (x ∷ xs) (y ∷ ys) h = (weaker x y h.0, zip_weaker weaker xs ys h.1)

-- ---- of maps and of sets

module _ {K X V E : Type 0} (k : RangeKind K X) (w w' : Writer K V E) (shapes : (v start end value : Value) → w.shape v start end value → w'.shape v start end value)
    (keys : (x : K) (r : Result Value E) → w.key x r → w'.key x r) (values : (v : V) (r : Result Value E) → w.value v r → w'.value v r) where
  entry_written : (pair : X × V) (v : Value) → IsWritten k w pair v → IsWritten k w' pair v
  entry_written pair v h = record { start = h.start; end = h.end; value = h.value; shape = shapes _ _ _ _ h.shape; start_is = keys _ _ h.start_is; end_is = keys _ _ h.end_is; value_is = values _ _ h.value_is }

  form_written : (pairs : List (X × V)) {v : Value} → IsForm k w pairs v → IsForm k w' pairs v
  form_written pairs h = record { entries = h.entries; is_list = h.is_list; written = zip_weaker entry_written pairs h.entries h.written }

-- where the functions refuse nothing, writing is refused for want of memory alone
no_other_refusal : {K X V E : Type 0} (k : RangeKind K X) (w : Writer K V E) (pairs : List (X × V)) (error : WriteError E) → RefusesToWrite k w pairs error → ((x : K) (fault : E) → w.key x (Err fault) → ⊥) → ((v : V) (fault : E) → w.value v (Err fault) → ⊥) → error ≡ NoMemory
no_other_refusal k w pairs NoMemory h keys values = refl
no_other_refusal k w pairs (Caller fault) h keys values = absurd (elim h.refused [
  | inl start ↦ keys _ _ start
  | inr rest ↦ elim rest [ inl end ↦ keys _ _ end.2 | inr part ↦ values _ _ part.4 ]
])

module _ {K X V E : Type 0} (k : RangeKind K X) (r r' : Reader K V E)
    (shapes : (v start end value : Value) → r.shape v start end value → r'.shape v start end value)
    (shapes_back : (v start end value : Value) → r'.shape v start end value → r.shape v start end value)
    (keys : (x : Value) (a : Result K E) → r.key x a → r'.key x a) (values : (x : Value) (a : Result V E) → r.value x a → r'.value x a) where
  entry_read : (pair : X × V) (v : Value) → IsRead k r pair v → IsRead k r' pair v
  entry_read pair v h = record { start = h.start; end = h.end; value = h.value; shape = shapes _ _ _ _ h.shape; start_is = keys _ _ h.start_is; end_is = keys _ _ h.end_is; value_is = values _ _ h.value_is }

  list_read : {eq : V → V → Bool} {form : Form} {list : List (X × V)} {v : Value} → IsReading k r eq form v list → IsReading k r' eq form v list
  list_read h = record {
    entries = h.entries;
    is_list = h.is_list;
    inserted = record { pairs = h.inserted.pairs; read = zip_weaker entry_read h.inserted.pairs h.entries h.inserted.read; accepted = h.inserted.accepted; canon = h.inserted.canon };
    same = h.same;
  }

  first_fault : {eq : V → V → Bool} {form : Form} {v : Value} {at : ℕ} {fault fault' : List (X × V) → Value → Type 0} → ((before : List (X × V)) (entry : Value) → fault before entry → fault' before entry) → IsFirstFault k r eq form v at fault → IsFirstFault k r' eq form v at fault'
  first_fault {at = at} weaker h = record { entries = h.entries; is_list = h.is_list; before = h.before; read = zip_weaker entry_read h.before (take at h.entries) h.read; accepted = h.accepted; entry = h.entry; is_there = h.is_there; fails = weaker h.before h.entry h.fails }

  bad_key : (part : Part) (fault : E) (v : Value) → IsBadKey k r part fault v → IsBadKey k r' part fault v
  bad_key Start fault v h = (h.0, h.1, h.2, shapes _ _ _ _ h.3, keys _ _ h.4)
  bad_key End fault v h = (h.0, h.1, h.2, shapes _ _ _ _ h.3, h.4, keys _ _ h.5, keys _ _ h.6)

  read_refused : (eq : V → V → Bool) (form : Form) (v : Value) (error : ReadError E) → RefusesToRead k r eq form v error → RefusesToRead k r' eq form v error
  read_refused eq form v NotAList h = h
  read_refused eq form v (BadEntry at) h = first_fault (λ before entry f start end value shape. f start end value (shapes_back _ _ _ _ shape)) h
  read_refused eq form v (BadKey at part fault) h = first_fault (λ before entry f. bad_key part fault entry f) h
  read_refused eq form v (BadValue at fault) h = first_fault (λ before entry f. (f.0, f.1, f.2, shapes _ _ _ _ f.3, f.4, f.5, keys _ _ f.6, keys _ _ f.7, values _ _ f.8)) h
  read_refused eq form v (EmptyRange at) h = first_fault (λ before entry f. (f.0, f.1, f.2, shapes _ _ _ _ f.3, f.4, f.5, f.6, keys _ _ f.7, keys _ _ f.8, values _ _ f.9, f.10)) h
  read_refused eq form v OutOfMemory h = (h.0, first_fault (λ before entry f. (f.0, entry_read _ _ f.1, f.2)) h.1)
  read_refused eq form v (OutOfOrder at) h = (h.0, first_fault (λ before entry f. (f.0, f.1, entry_read _ _ f.2, f.3, f.4, f.5)) h.1)
  read_refused eq form v (Uncoalesced at) h = (h.0, first_fault (λ before entry f. (f.0, f.1, entry_read _ _ f.2, f.3, f.4, f.5, f.6, f.7)) h.1)

  -- a value is refused for memory alone, where the one words say just what the others do
  memory_alone : ((x : Value) (a : Result K E) → r'.key x a → r.key x a) → ((x : Value) (a : Result V E) → r'.value x a → r.value x a)
      → (eq : V → V → Bool) (form : Form) (v : Value) (error : ReadError E) → IsRefusedForMemoryAlone k r eq form v error → IsRefusedForMemoryAlone k r' eq form v error
  memory_alone keys_back values_back eq form v error h alike_keys alike_values pairs read accepts =
      h
      (λ part x is answer says. alike_keys part x (keys part (Ok x) is) answer (keys part answer says))
      (λ part x is answer says. alike_values part x (values part (Ok x) is) answer (values part answer says))
      pairs
      (record { entries = read.entries; is_list = read.is_list; read = zip_weaker back pairs read.entries read.read })
      accepts
    where
      back : (pair : X × V) (v : Value) → IsRead k r' pair v → IsRead k r pair v
      back pair v h = record { start = h.start; end = h.end; value = h.value; shape = shapes_back _ _ _ _ h.shape; start_is = keys_back _ _ h.start_is; end_is = keys_back _ _ h.end_is; value_is = values_back _ _ h.value_is }

-- ---- of maps

module _ {K X V E : Type 0} (k : RangeKind K X) {key key' : K → Result Value E → Type 0} {value value' : V → Result Value E → Type 0} (keys : (x : K) (r : Result Value E) → key x r → key' x r) (values : (v : V) (r : Result Value E) → value v r → value' v r) where
  -- the JSON form of a map, by what is said of the functions that wrote it
  pub form_weaker : {pairs : List (X × V)} {v : Value} → IsForm k (map_writer key value) pairs v → IsForm k (map_writer key' value') pairs v
  form_weaker {pairs} h = form_written k (map_writer key value) (map_writer key' value') (λ v start end x is. is) keys values pairs h

-- where the functions refuse nothing, writing is refused for want of memory alone
pub written_unless_no_memory : {K X V E : Type 0} (k : RangeKind K X) (key : K → Result Value E → Type 0) (value : V → Result Value E → Type 0) (pairs : List (X × V)) (error : WriteError E) → RefusesToWrite k (map_writer key value) pairs error → ((x : K) (fault : E) → key x (Err fault) → ⊥) → ((v : V) (fault : E) → value v (Err fault) → ⊥) → error ≡ NoMemory
written_unless_no_memory k key value pairs error h keys values = no_other_refusal k (map_writer key value) pairs error h keys values

module _ {K X V E : Type 0} (k : RangeKind K X) {key key' : Value → Result K E → Type 0} {value value' : Value → Result V E → Type 0} (keys : (x : Value) (r : Result K E) → key x r → key' x r) (values : (x : Value) (r : Result V E) → value x r → value' x r) where
  -- what was read of a value, by what is said of the functions that read it
  pub reading_weaker : {eq : V → V → Bool} {form : Form} {list : List (X × V)} {v : Value} → IsReading k (map_reader key value) eq form v list → IsReading k (map_reader key' value') eq form v list
  reading_weaker h = list_read k (map_reader key value) (map_reader key' value') (λ v start end x is. is) (λ v start end x is. is) keys values h

  -- why reading was refused, likewise
  pub refusal_weaker : (eq : V → V → Bool) (form : Form) (v : Value) (error : ReadError E) → RefusesToRead k (map_reader key value) eq form v error → RefusesToRead k (map_reader key' value') eq form v error
  refusal_weaker eq form v error h = read_refused k (map_reader key value) (map_reader key' value') (λ v start end x is. is) (λ v start end x is. is) keys values eq form v error h

  -- the clause `exact`, where the words say just what the functions may answer
  pub exact_weaker : ((x : Value) (r : Result K E) → key' x r → key x r) → ((x : Value) (r : Result V E) → value' x r → value x r)
      → (eq : V → V → Bool) (form : Form) (v : Value) (error : ReadError E) → IsRefusedForMemoryAlone k (map_reader key value) eq form v error → IsRefusedForMemoryAlone k (map_reader key' value') eq form v error
  exact_weaker keys_back values_back eq form v error h = memory_alone k (map_reader key value) (map_reader key' value') (λ v start end x is. is) (λ v start end x is. is) keys values keys_back values_back eq form v error h

-- ---- of sets

module _ {K X E : Type 0} (k : RangeKind K X) {key key' : K → Result Value E → Type 0} (keys : (x : K) (r : Result Value E) → key x r → key' x r) where
  pub set_form_weaker : {pairs : List (X × ⊤)} {v : Value} → IsForm k (set_writer key) pairs v → IsForm k (set_writer key') pairs v
  set_form_weaker {pairs} h = form_written k (set_writer key) (set_writer key') (λ v start end x is. is) keys (λ unit r is. is) pairs h

pub set_written_unless_no_memory : {K X E : Type 0} (k : RangeKind K X) (key : K → Result Value E → Type 0) (pairs : List (X × ⊤)) (error : WriteError E) → RefusesToWrite k (set_writer key) pairs error → ((x : K) (fault : E) → key x (Err fault) → ⊥) → error ≡ NoMemory
set_written_unless_no_memory k key pairs error h keys = no_other_refusal k (set_writer key) pairs error h keys (λ unit fault is. absurd (cc))

module _ {K X E : Type 0} (k : RangeKind K X) {key key' : Value → Result K E → Type 0} (keys : (x : Value) (r : Result K E) → key x r → key' x r) where
  pub set_reading_weaker : {eq : ⊤ → ⊤ → Bool} {form : Form} {list : List (X × ⊤)} {v : Value} → IsReading k (set_reader key) eq form v list → IsReading k (set_reader key') eq form v list
  set_reading_weaker h = list_read k (set_reader key) (set_reader key') (λ v start end x is. is) (λ v start end x is. is) keys (λ v r is. is) h

  pub set_refusal_weaker : (eq : ⊤ → ⊤ → Bool) (form : Form) (v : Value) (error : ReadError E) → RefusesToRead k (set_reader key) eq form v error → RefusesToRead k (set_reader key') eq form v error
  set_refusal_weaker eq form v error h = read_refused k (set_reader key) (set_reader key') (λ v start end x is. is) (λ v start end x is. is) keys (λ v r is. is) eq form v error h

  pub set_exact_weaker : ((x : Value) (r : Result K E) → key' x r → key x r)
      → (eq : ⊤ → ⊤ → Bool) (form : Form) (v : Value) (error : ReadError E) → IsRefusedForMemoryAlone k (set_reader key) eq form v error → IsRefusedForMemoryAlone k (set_reader key') eq form v error
  set_exact_weaker keys_back eq form v error h = memory_alone k (set_reader key) (set_reader key') (λ v start end x is. is) (λ v start end x is. is) keys (λ v r is. is) keys_back (λ v r is. is) eq form v error h
