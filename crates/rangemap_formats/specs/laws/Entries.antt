-- Entries of maps and of sets are read in one way at most.
use Rattle.std.proofs.Common.{◌≡◌, ap, subst, Result}
use Rattle.serde_json.specs.declared.value.Value.{Value}
use Rattle.rangemap_formats.specs.Entries.{IsUnambiguous}
use Rattle.rangemap_formats.specs.Json.{list_of, map_entry, map_reader, set_entry, set_reader}

pub map_start : (v s t c s' t' c' : Value) → map_entry v s t c → map_entry v s' t' c' → s ≡ s'
map_start v s t c s' t' c' g h =
    let a = g.1 in let b = g.2 in let i = h.1 in let j = h.2 in
    let one : g.0 ≡ h.0 = cc in
    let is : list_of g.0 ≡ list_of h.0 = ap list_of one in
    cc

pub map_end : (v s t c s' t' c' : Value) → map_entry v s t c → map_entry v s' t' c' → t ≡ t'
map_end v s t c s' t' c' g h =
    let a = g.1 in let b = g.2 in let i = h.1 in let j = h.2 in
    let one : g.0 ≡ h.0 = cc in
    let is : list_of g.0 ≡ list_of h.0 = ap list_of one in
    cc

pub map_value : (v s t c s' t' c' : Value) → map_entry v s t c → map_entry v s' t' c' → c ≡ c'
map_value v s t c s' t' c' g h = let a = g.1 in let i = h.1 in cc

pub map_unambiguous : {K V E : Type 0} (key : Value → Result K E → Type 0) (value : Value → Result V E → Type 0) → IsUnambiguous (map_reader key value)
map_unambiguous key value = record {
  start = map_start;
  end = map_end;
  value = λ v s t c s' t' c' g h answer read. subst (λ part. value part answer) (map_value v s t c s' t' c' g h) read;
}

pub set_start : (v s t c s' t' c' : Value) → set_entry v s t c → set_entry v s' t' c' → s ≡ s'
set_start v s t c s' t' c' g h = cc

pub set_end : (v s t c s' t' c' : Value) → set_entry v s t c → set_entry v s' t' c' → t ≡ t'
set_end v s t c s' t' c' g h = cc

pub set_unambiguous : {K E : Type 0} (key : Value → Result K E → Type 0) → IsUnambiguous (set_reader key)
set_unambiguous key = record { start = set_start; end = set_end; value = λ v s t c s' t' c' g h answer read. read }
