-- What a line on a calendar is read as, by its words.
use Rattle.std.specs.Prelude.{◌≡◌, codes, false, List, [], ◌∷◌, ℕ, drop, Result, Ok, Err}
use Rattle.std.specs.List.{AllByRecursion}
use Rattle.std.specs.Range.{range_inclusive_end, range_inclusive_exhausted, range_inclusive_start}
use Rattle.calendar.specs.declared.history.Call.TheVariants.{Book, Cancel}
use Rattle.rangerun_library.specs.declared.calendar_command.CalendarCommand.{CalendarCommand}
use Rattle.rangerun_library.specs.declared.calendar_command.CalendarCommand.TheVariants.{Change, Free, Iter}
use Rattle.rangerun_library.specs.declared.fault.Cause.{Cause}
use Rattle.rangerun_library.specs.declared.fault.Cause.TheVariants.{Command, Number}
use Rattle.rangerun_library.specs.Words.{IsNumber, IsOneOf, number_of}

-- the words are a command's name and as many words behind it as it takes
abbrev pub HasForm : List (List ℕ) → Type 0
HasForm (name ∷ []) = name ≡ codes "iter"
HasForm (name ∷ _ ∷ _ ∷ []) = IsOneOf (codes "cancel" ∷ codes "free" ∷ []) name
HasForm (name ∷ _ ∷ _ ∷ _ ∷ []) = name ≡ codes "book"
HasForm _ = ⊥

-- the words behind the name, all of which stand for numbers, are numbers
abbrev pub HasNumbers : List (List ℕ) → Type 0
HasNumbers words = AllByRecursion IsNumber (drop 1 words)

-- the words are those of the command
abbrev pub IsReadAs : List (List ℕ) → CalendarCommand → Type 0
IsReadAs words Iter = words ≡ codes "iter" ∷ []
IsReadAs words (Free days) =
    (first last : List ℕ) × (words ≡ codes "free" ∷ first ∷ last ∷ []) × (range_inclusive_start days ≡ number_of first)
    × (range_inclusive_end days ≡ number_of last) × (range_inclusive_exhausted days ≡ false)
IsReadAs words (Change (Cancel from to)) =
    (first last : List ℕ) × (words ≡ codes "cancel" ∷ first ∷ last ∷ []) × (from ≡ number_of first) × (to ≡ number_of last)
IsReadAs words (Change (Book from to who)) =
    (first last guest : List ℕ) × (words ≡ codes "book" ∷ first ∷ last ∷ guest ∷ []) × (from ≡ number_of first) × (to ≡ number_of last)
    × (who ≡ number_of guest)

-- The words are read as the command that they are, and else the fault of the least number is told. In whichever case is said, the
-- others can't be: so each is answered exactly where it is said.
abbrev pub IsReading : List (List ℕ) → Result CalendarCommand Cause → Type 0
IsReading words (Ok command) = IsReadAs words command × HasNumbers words
IsReading words (Err Command) = ¬ HasForm words
IsReading words (Err Number) = HasForm words × (¬ HasNumbers words)
IsReading words (Err _) = ⊥
