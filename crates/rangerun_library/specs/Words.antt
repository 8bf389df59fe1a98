-- The words of a line, and what they may be.
use Rattle.std.specs.Prelude.{◌≡◌, ◌≢◌, ◌==◌, ◌⊎◌, ℕ, ◌<◌, ◌^◌, Bool, List, [], ◌∷◌, length, true, false, nat_le, nat_lt}
use Rattle.std.specs.Char.{is_ascii_digit, is_ascii_lowercase}
use Rattle.std.specs.List.{list_all, slice_split}
use Rattle.std.specs.Str.Parse.{digits_value}
use Rattle.rangerun_library.specs.declared.words.Operands.{Operands}
use Rattle.rangerun_library.specs.declared.words.Operands.TheVariants.{None, One, Two, Three, More}

-- the words of a line: the parts, some of which may be empty, that its spaces cut it into
abbrev pub words_of : List ℕ → List (List ℕ)
words_of line = slice_split (λ byte. byte == 32) line

-- the words are a first one and the operands behind it
abbrev pub IsDivision : List (List ℕ) → List ℕ → Operands → Type 0
IsDivision words first None = words ≡ first ∷ []
IsDivision words first (One one) = words ≡ first ∷ one.now ∷ []
IsDivision words first (Two one two) = words ≡ first ∷ one.now ∷ two.now ∷ []
IsDivision words first (Three one two three) = words ≡ first ∷ one.now ∷ two.now ∷ three.now ∷ []
IsDivision words first More = 4 < length words

-- a word is one of some names
abbrev pub IsOneOf : List (List ℕ) → List ℕ → Type 0
IsOneOf [] word = ⊥
IsOneOf (name ∷ names) word = (word ≡ name) ⊎ IsOneOf names word

-- the number that a word of digits writes, in decimal
abbrev pub number_of : List ℕ → ℕ
number_of word = digits_value 10 word

-- one or more ASCII digits, of a value that a key can have
abbrev pub IsNumber : List ℕ → Type 0
IsNumber word = (word ≢ []) × (list_all is_ascii_digit word ≡ true) × (number_of word < 2 ^ 32)

-- whether a range between two ends has a key, where ranges have their end or haven't
abbrev pub holds_key : Bool → ℕ → ℕ → Bool
holds_key true = nat_le
holds_key false = nat_lt

-- two numbers that are the ends of a range with a key in it
abbrev pub AreEnds : Bool → List ℕ → List ℕ → Type 0
AreEnds has_end start end = IsNumber start × IsNumber end × (holds_key has_end (number_of start) (number_of end) ≡ true)

-- one or more letters a to z
abbrev pub IsValue : List ℕ → Type 0
IsValue word = (word ≢ []) × (list_all is_ascii_lowercase word ≡ true)
