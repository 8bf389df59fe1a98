-- Words of ASCII characters are text, and words of digits are what std reads as numbers.
use Rattle.std.proofs.Common.{◌≡◌, ◌≢◌, ℕ, ◌<◌, ◌^◌, length, Bool, true, false, List, [], ◌∷◌, ◌&&◌, arith, refl, rules}
use Rattle.std.specs.Char.{is_ascii_digit, is_ascii_lowercase}
use Rattle.std.specs.List.{list_all}
use Rattle.std.specs.Prelude.{IsUtf8, Result, Ok, Err, IsErrAnd, MatchResult}
use Rattle.std.specs.Result.{OkIff}
use Rattle.std.specs.Str.{IsAscii}
use Rattle.std.specs.Str.Parse.{ParsesUnsigned, digits_value}
use Rattle.std.proofs.lemmas.Bool.Decides.{nat_tests}
use Rattle.std.proofs.lemmas.Str.{IsUtf8-from_ascii}
use Rattle.std.proofs.lemmas.Str.Ascii.{IsAscii-nil, IsAscii-cons}
use Rattle.std.proofs.lemmas.Str.Parse.{IsNumeralModel, numerals_by_value, parse_digits}
use Rattle.rangerun_library.specs.Words.{IsNumber, number_of}

-- both parts of a true conjunction are
both : (a b : Bool) → (a && b) ≡ true → (a ≡ true) × (b ≡ true)
both true true e = (refl, refl)
both true false e = (cc)
both false b e = (cc)

-- bytes that pass a test of ASCII characters are ASCII
ascii : (p : ℕ → Bool) → ((c : ℕ) → p c ≡ true → c < 128) → (bs : List ℕ) → list_all p bs ≡ true → IsAscii bs
ascii p small [] all = IsAscii-nil
ascii p small (b ∷ bs) all =
    let parts = both (p b) (list_all p bs) all in
    IsAscii-cons b bs (small b parts.0) (ascii p small bs parts.1)

-- a word of digits is text
pub digits_are_text : (bs : List ℕ) → list_all is_ascii_digit bs ≡ true → IsUtf8 bs
digits_are_text bs all = IsUtf8-from_ascii bs (ascii is_ascii_digit (λ c e. grind (arith, nat_tests)) bs all)

-- a word of letters is text
pub letters_are_text : (bs : List ℕ) → list_all is_ascii_lowercase bs ≡ true → IsUtf8 bs
letters_are_text bs all = IsUtf8-from_ascii bs (ascii is_ascii_lowercase (λ c e. grind (arith, nat_tests)) bs all)

-- the test of digits is that of std's reader
own : IsNumeralModel (λ ds. list_all is_ascii_digit ds ≡ true) (digits_value 10)
own = numerals_by_value _ (search rules)

-- a list that is not empty has a length
has_length : (bs : List ℕ) → bs ≢ [] → 0 < length bs
has_length [] some = absurd (some refl)
has_length (b ∷ bs) some = omega arith

-- a list that has a length is not empty
not_empty : (bs : List ℕ) → 0 < length bs → bs ≢ []
not_empty [] some = absurd (omega arith)
not_empty (b ∷ bs) some = λ e. cc

-- the number that std reads of a word of digits, when its error is given another form
pub number_read : {E F : Type 0} (bs : List ℕ) (r : Result ℕ E) (t : Result ℕ F) (post : E → F → Type 0) → ParsesUnsigned 32 10 bs r → list_all is_ascii_digit bs ≡ true → MatchResult r (λ x. t ≡ Ok x) (λ e. IsErrAnd t (post e)) → OkIff t (IsNumber bs) (number_of bs)
number_read {E} bs (Ok x) (Ok y) post reads all same =
    let read : ((0 < length bs) × (number_of bs < 2 ^ 32)) × (x ≡ number_of bs) = parse_digits own {E = E} 32 bs (Ok x) reads all in
    let some : 0 < length bs = read.0.0 in
    let value : x ≡ number_of bs = read.1 in
    ((not_empty bs some, all, read.0.1), cc)
number_read bs (Ok x) (Err f) post reads all same = absurd (cc)
number_read bs (Err e) (Ok y) post reads all same = absurd same
number_read bs (Err e) (Err f) post reads all same =
    λ number. parse_digits own 32 bs (Err e) reads all (has_length bs number.0, number.2)
