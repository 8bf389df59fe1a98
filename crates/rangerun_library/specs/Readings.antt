-- What a line of the program is read as, by its words.
use Rattle.std.specs.Prelude.{◌≡◌, ◌↔◌, codes, Bool, true, false, ℕ, List, [], ◌∷◌, take, drop, Result, Ok, Err}
use Rattle.std.specs.List.{AllByRecursion}
use Rattle.std.specs.declared.fmt.Debug.{Ghosts as DebugGhosts}
use Rattle.rangemap_core.specs.declared.key_range.KeyRange.{Ghosts as KeyRangeGhosts}
use Rattle.rangerun_library.specs.declared.command.Command.{Command}
use Rattle.rangerun_library.specs.declared.command.Command.TheVariants.{Insert, Remove, Clear, Ask}
use Rattle.rangerun_library.specs.declared.command.Question.{Question}
use Rattle.rangerun_library.specs.declared.command.Question.TheVariants.{Get, First, Last, Iter, Len, Overlapping, Overlaps, Gaps, Json}
use Rattle.rangerun_library.specs.declared.fault.Cause.{Cause}
use Rattle.rangerun_library.specs.declared.fault.Cause.TheVariants.{Command as CommandFault, Number, EmptyRange, Value}
use Rattle.rangerun_library.specs.Words.{AreEnds, IsNumber, IsOneOf, IsValue, holds_key, number_of}

-- the names of the commands that stand alone
abbrev pub lone_names : List (List ℕ)
lone_names = codes "clear" ∷ codes "first" ∷ codes "last" ∷ codes "iter" ∷ codes "len" ∷ codes "json" ∷ []

-- the names of those that take the ends of a range, and an insert is none where it has a value
abbrev pub range_names : Bool → List (List ℕ)
range_names true = codes "remove" ∷ codes "overlapping" ∷ codes "overlaps" ∷ codes "gaps" ∷ []
range_names false = codes "insert" ∷ codes "remove" ∷ codes "overlapping" ∷ codes "overlaps" ∷ codes "gaps" ∷ []

-- the words are a command's name and as many words behind it as it takes
abbrev pub HasForm : Bool → List (List ℕ) → Type 0
HasForm has_value (name ∷ []) = IsOneOf lone_names name
HasForm has_value (name ∷ _ ∷ []) = name ≡ codes "get"
HasForm has_value (name ∷ _ ∷ _ ∷ []) = IsOneOf (range_names has_value) name
HasForm has_value (name ∷ _ ∷ _ ∷ _ ∷ []) = (name ≡ codes "insert") × (has_value ≡ true)
HasForm has_value _ = ⊥

-- the words in the places of numbers, which are the two behind the name, are numbers
abbrev pub HasNumbers : List (List ℕ) → Type 0
HasNumbers words = AllByRecursion IsNumber (take 2 (drop 1 words))

-- the range of an insert or a removal has no key
abbrev pub IsEmptyChange : Bool → List (List ℕ) → Type 0
IsEmptyChange has_end (name ∷ start ∷ end ∷ _) = IsOneOf (codes "insert" ∷ codes "remove" ∷ []) name × (holds_key has_end (number_of start) (number_of end) ≡ false)
IsEmptyChange has_end _ = ⊥

-- the word in a value's place, which is the third behind the name, is a value
abbrev pub HasValue : List (List ℕ) → Type 0
HasValue words = AllByRecursion IsValue (drop 3 words)

-- the ends are those that two words give, of a range with a key in it
abbrev pub AreEndsOf : Bool → List ℕ → List ℕ → ℕ → ℕ → Type 0
AreEndsOf has_end start end from to = AreEnds has_end start end × (from ≡ number_of start) × (to ≡ number_of end)

-- the range is that which two words give, in whichever order they are
abbrev pub IsRangeOf : {R : Type 0} → KeyRangeGhosts R ℕ → List ℕ → List ℕ → R → Type 0
IsRangeOf ranges start end range =
    IsNumber start × IsNumber end × (ranges.read.start range ≡ number_of start) × (ranges.read.end range ≡ number_of end)
    × (ranges.read.IsNonEmpty range ↔ (holds_key ranges.has_end (number_of start) (number_of end) ≡ true))

-- the words are those of the question
abbrev pub IsAskedAs : {R : Type 0} → KeyRangeGhosts R ℕ → List (List ℕ) → Question R → Type 0
IsAskedAs ranges words First = words ≡ codes "first" ∷ []
IsAskedAs ranges words Last = words ≡ codes "last" ∷ []
IsAskedAs ranges words Iter = words ≡ codes "iter" ∷ []
IsAskedAs ranges words Len = words ≡ codes "len" ∷ []
IsAskedAs ranges words Json = words ≡ codes "json" ∷ []
IsAskedAs ranges words (Get key) = (word : List ℕ) × (words ≡ codes "get" ∷ word ∷ []) × IsNumber word × (key ≡ number_of word)
IsAskedAs ranges words (Overlapping range) = (start end : List ℕ) × (words ≡ codes "overlapping" ∷ start ∷ end ∷ []) × IsRangeOf ranges start end range
IsAskedAs ranges words (Overlaps range) = (start end : List ℕ) × (words ≡ codes "overlaps" ∷ start ∷ end ∷ []) × IsRangeOf ranges start end range
IsAskedAs ranges words (Gaps range) = (start end : List ℕ) × (words ≡ codes "gaps" ∷ start ∷ end ∷ []) × IsRangeOf ranges start end range

module _ {R : Type 0} {ranges : KeyRangeGhosts R ℕ} {prints : DebugGhosts R} where
  -- the words are those of the command
  abbrev pub IsReadAs : Bool → List (List ℕ) → Command R ranges prints → Type 0
  IsReadAs has_value words Clear = words ≡ codes "clear" ∷ []
  IsReadAs false words (Insert span word) =
      (start end : List ℕ) × (words ≡ codes "insert" ∷ start ∷ end ∷ []) × AreEndsOf ranges.has_end start end span.start span.end × (word.now ≡ [])
  IsReadAs true words (Insert span word) =
      (start end : List ℕ) × (words ≡ codes "insert" ∷ start ∷ end ∷ word.now ∷ []) × AreEndsOf ranges.has_end start end span.start span.end × IsValue word.now
  IsReadAs has_value words (Remove span) = (start end : List ℕ) × (words ≡ codes "remove" ∷ start ∷ end ∷ []) × AreEndsOf ranges.has_end start end span.start span.end
  IsReadAs has_value words (Ask question) = IsAskedAs ranges words question

  -- The words are read as the command that they are, and else the fault of the least number is told. In whichever case is said, the
  -- others can't be: so each is answered exactly where it is said.
  abbrev pub IsReading : Bool → List (List ℕ) → Result (Command R ranges prints) Cause → Type 0
  IsReading has_value words (Ok command) = IsReadAs has_value words command
  IsReading has_value words (Err CommandFault) = ¬ HasForm has_value words
  IsReading has_value words (Err Number) = HasForm has_value words × (¬ HasNumbers words)
  IsReading has_value words (Err EmptyRange) = HasForm has_value words × HasNumbers words × IsEmptyChange ranges.has_end words
  IsReading has_value words (Err Value) = HasForm has_value words × HasNumbers words × (¬ IsEmptyChange ranges.has_end words) × (¬ HasValue words)
  IsReading has_value words (Err _) = ⊥
