-- What an error of reading or of writing prints, from the texts of the caller's faults. Entries count from 0.
use Rattle.std.specs.Prelude.{ℕ, List, Option, Some, codes}
use Rattle.std.specs.Fmt.{◌++?◌, decimal}
use Rattle.rangemap_formats.specs.declared.json.Part.TheVariants.{Start, End}
use Rattle.rangemap_formats.specs.declared.json.ReadError.{ReadError}
use Rattle.rangemap_formats.specs.declared.json.ReadError.TheVariants.{NotAList, BadEntry, BadKey, BadValue, EmptyRange, OutOfMemory, OutOfOrder, Uncoalesced}
use Rattle.rangemap_formats.specs.declared.json.WriteError.{WriteError}
use Rattle.rangemap_formats.specs.declared.json.WriteError.TheVariants.{Caller, OutOfMemory as NoMemory}

-- words, the place of an entry, and words
abbrev pub at_entry : List ℕ → ℕ → List ℕ → Option (List ℕ)
at_entry words at rest = Some words ++? Some (decimal at) ++? Some rest

-- what was wrong with the list that was read, or with its entry at a place
abbrev pub read_error_text : {E : Type 0} → (E → Option (List ℕ)) → ReadError E → Option (List ℕ)
read_error_text text NotAList = Some (codes "the value is not a list")
read_error_text text (BadEntry at) = at_entry (codes "entry ") at (codes " has the wrong layout")
read_error_text text (BadKey at Start fault) = at_entry (codes "the start of entry ") at (codes ": ") ++? text fault
read_error_text text (BadKey at End fault) = at_entry (codes "the end of entry ") at (codes ": ") ++? text fault
read_error_text text (BadValue at fault) = at_entry (codes "the value of entry ") at (codes ": ") ++? text fault
read_error_text text (EmptyRange at) = at_entry (codes "the range of entry ") at (codes " is empty")
read_error_text text OutOfMemory = Some (codes "out of memory")
read_error_text text (OutOfOrder at) = at_entry (codes "entry ") at (codes " does not lie behind the one before")
read_error_text text (Uncoalesced at) = at_entry (codes "entry ") at (codes " touches the one before and has an equal value")

-- the caller's fault, or that there was no memory
abbrev pub write_error_text : {E : Type 0} → (E → Option (List ℕ)) → WriteError E → Option (List ℕ)
write_error_text text (Caller fault) = text fault
write_error_text text NoMemory = Some (codes "out of memory")
