-- How the faults of a command's operands are told, and what is text in it.
use Rattle.std.proofs.Common.{◌≡◌, ◌≢◌, ◌↔◌, inl, inr, refl, codes, Bool, true, false, ℕ, ◌<◌, List, [], ◌∷◌, length, arith, ◌&&◌, Result, Err, IsOk, IsErrOf, IsUtf8}
use Rattle.std.specs.List.{list_all}
use Rattle.std.specs.Char.{is_ascii_lowercase}
use Rattle.std.specs.declared.fmt.Debug.{Ghosts as DebugGhosts}
use Rattle.rangemap_core.specs.declared.key_range.KeyRange.{Ghosts as KeyRangeGhosts}
use Rattle.rangerun_library.specs.declared.fault.Cause.{Cause}
use Rattle.rangerun_library.specs.declared.fault.Cause.TheVariants.{Arguments, Command as CommandFault, Number, EmptyRange, Value, Stream, Memory}
use Rattle.rangerun_library.specs.declared.words.Operands.{Operands}
use Rattle.rangerun_library.specs.declared.words.Operands.TheVariants.{None, One, Two, Three, More}
use Rattle.rangerun_library.specs.Bookings.{HasForm as HasBookingForm}
use Rattle.rangerun_library.specs.Readings.{HasForm, IsReading, lone_names, range_names}
use Rattle.rangerun_library.specs.Words.{AreEnds, IsDivision, IsNumber, IsOneOf, IsValue, holds_key, number_of}
use Rattle.rangerun_library.proofs.Ascii.{letters_are_text}

-- two words are numbers
abbrev pub AreNumbers : List ℕ → List ℕ → Type 0
AreNumbers start end = IsNumber start × IsNumber end

-- two numbers with no key between them
abbrev pub AreEmpty : Bool → List ℕ → List ℕ → Type 0
AreEmpty has_end start end = IsNumber start × IsNumber end × (holds_key has_end (number_of start) (number_of end) ≡ false)

-- two words are no numbers, or have no key between them, or are the ends of a range with a key
by_test : (has_end : Bool) (start end : List ℕ) → (¬ AreEmpty has_end start end) → (¬ AreEnds has_end start end) → AreNumbers start end → (b : Bool) → holds_key has_end (number_of start) (number_of end) ≡ b → ⊥
by_test has_end start end full none are true holds = none (are.0, are.1, holds)
by_test has_end start end full none are false holds = full (are.0, are.1, holds)

no_other : (has_end : Bool) (start end : List ℕ) → (¬ (¬ AreNumbers start end)) → (¬ AreEmpty has_end start end) → (¬ AreEnds has_end start end) → ⊥
no_other has_end start end numbers full none = numbers (λ are. by_test has_end start end full none are (holds_key has_end (number_of start) (number_of end)) refl)

-- a range with a key is not empty
not_empty : (b : Bool) → b ≡ true → b ≡ false → ⊥
not_empty b holds fails = cc

module _ {R : Type 0} (ranges : KeyRangeGhosts R ℕ) (prints : DebugGhosts R) (name start end : List ℕ) where
  -- the fault of a range to be changed, in a line with no value
  pub span_fault : {T : Type 0} (has_value : Bool) (cause : Cause) → HasForm has_value (name ∷ start ∷ end ∷ []) → IsOneOf (codes "insert" ∷ codes "remove" ∷ []) name
      → (IsOk {T = T} {E = Cause} (Err cause) ↔ AreEnds ranges.has_end start end)
      → (IsErrOf {T = T} (Err cause) Number ↔ (¬ AreNumbers start end))
      → (IsErrOf {T = T} (Err cause) EmptyRange ↔ AreEmpty ranges.has_end start end)
      → (◌≢◌ {A = Result T Cause} (Err cause) (Err Value))
      → IsReading {R = R} {ranges = ranges} {prints = prints} has_value (name ∷ start ∷ end ∷ []) (Err cause)
  span_fault has_value Number form change succeeds number empty value = (form, λ are. number.0 refl (are.0, are.1.0))
  span_fault has_value EmptyRange form change succeeds number empty value =
      let are = empty.0 refl in
      (form, (are.0, (are.1, tt)), (change, are.2))
  span_fault has_value Value form change succeeds number empty value = absurd (value refl)
  span_fault has_value Arguments form change succeeds number empty value = absurd (no_other ranges.has_end start end (λ no. let e = number.1 no in cc) (λ no. let e = empty.1 no in cc) (λ no. let e = succeeds.1 no in cc))
  span_fault has_value CommandFault form change succeeds number empty value = absurd (no_other ranges.has_end start end (λ no. let e = number.1 no in cc) (λ no. let e = empty.1 no in cc) (λ no. let e = succeeds.1 no in cc))
  span_fault has_value Stream form change succeeds number empty value = absurd (no_other ranges.has_end start end (λ no. let e = number.1 no in cc) (λ no. let e = empty.1 no in cc) (λ no. let e = succeeds.1 no in cc))
  span_fault has_value Memory form change succeeds number empty value = absurd (no_other ranges.has_end start end (λ no. let e = number.1 no in cc) (λ no. let e = empty.1 no in cc) (λ no. let e = succeeds.1 no in cc))

  -- the fault of a range and of the value that it is to get
  pub pair_fault : {T : Type 0} (word : List ℕ) (cause : Cause) → HasForm true (name ∷ start ∷ end ∷ word ∷ []) → IsOneOf (codes "insert" ∷ codes "remove" ∷ []) name
      → (IsOk {T = T} {E = Cause} (Err cause) ↔ AreEnds ranges.has_end start end × IsValue word)
      → (IsErrOf {T = T} (Err cause) Number ↔ (¬ AreNumbers start end))
      → (IsErrOf {T = T} (Err cause) EmptyRange ↔ AreEmpty ranges.has_end start end)
      → (IsErrOf {T = T} (Err cause) Value ↔ AreEnds ranges.has_end start end × (¬ IsValue word))
      → IsReading {R = R} {ranges = ranges} {prints = prints} true (name ∷ start ∷ end ∷ word ∷ []) (Err cause)
  pair_fault word Number form change succeeds number empty value = (form, λ are. number.0 refl (are.0, are.1.0))
  pair_fault word EmptyRange form change succeeds number empty value =
      let are = empty.0 refl in
      (form, (are.0, (are.1, tt)), (change, are.2))
  pair_fault word Value form change succeeds number empty value =
      let are = value.0 refl in
      (form, (are.0.0, (are.0.1, tt)), (λ none. not_empty _ are.0.2 none.1), λ has. are.1 has.0)
  pair_fault word Arguments form change succeeds number empty value = absurd (no_other ranges.has_end start end (λ no. let e = number.1 no in cc) (λ no. let e = empty.1 no in cc) (λ are. let e = value.1 (are, λ is. let f = succeeds.1 (are, is) in cc) in cc))
  pair_fault word CommandFault form change succeeds number empty value = absurd (no_other ranges.has_end start end (λ no. let e = number.1 no in cc) (λ no. let e = empty.1 no in cc) (λ are. let e = value.1 (are, λ is. let f = succeeds.1 (are, is) in cc) in cc))
  pair_fault word Stream form change succeeds number empty value = absurd (no_other ranges.has_end start end (λ no. let e = number.1 no in cc) (λ no. let e = empty.1 no in cc) (λ are. let e = value.1 (are, λ is. let f = succeeds.1 (are, is) in cc) in cc))
  pair_fault word Memory form change succeeds number empty value = absurd (no_other ranges.has_end start end (λ no. let e = number.1 no in cc) (λ no. let e = empty.1 no in cc) (λ are. let e = value.1 (are, λ is. let f = succeeds.1 (are, is) in cc) in cc))

left : (a b : Bool) → (a && b) ≡ true → a ≡ true
left true b e = refl
left false b e = cc

right : (a b : Bool) → (a && b) ≡ true → b ≡ true
right true b e = e
right false b e = absurd (not_empty false e refl)

-- one of some names of letters is text
one_is_text : (names : List (List ℕ)) (word : List ℕ) → list_all (list_all is_ascii_lowercase) names ≡ true → IsOneOf names word → IsUtf8 word
one_is_text [] word letters is = absurd is
one_is_text (name ∷ names) word letters (inl is) = rw is (letters_are_text name (left _ _ letters))
one_is_text (name ∷ names) word letters (inr is) = one_is_text names word (right _ _ letters) is

-- the name of a command is text
pub name_is_text : (has_value : Bool) (name : List ℕ) (operands : List (List ℕ)) → HasForm has_value (name ∷ operands) → IsUtf8 name
name_is_text has_value name [] form = one_is_text lone_names name refl form
name_is_text has_value name (one ∷ []) form = rw form (letters_are_text (codes "get") refl)
name_is_text false name (one ∷ two ∷ []) form = one_is_text (range_names false) name refl form
name_is_text true name (one ∷ two ∷ []) form = one_is_text (range_names true) name refl form
name_is_text has_value name (one ∷ two ∷ three ∷ []) form = rw form.0 (letters_are_text (codes "insert") refl)
name_is_text has_value name (one ∷ two ∷ three ∷ four ∷ more) form = absurd form

-- a removal has its form, whether inserts have a value or not
pub removes : (name start end : List ℕ) (has_value : Bool) → name ≡ codes "remove" → HasForm has_value (name ∷ start ∷ end ∷ [])
removes name start end true is = inl is
removes name start end false is = inr (inl is)

-- five words or more are no command's
too_long : (words : List (List ℕ)) → 4 < length words → (has_value : Bool) → ¬ HasForm has_value words
too_long [] long has_value form = omega arith
too_long (name ∷ []) long has_value form = omega arith
too_long (name ∷ one ∷ []) long has_value form = omega arith
too_long (name ∷ one ∷ two ∷ []) long has_value form = omega arith
too_long (name ∷ one ∷ two ∷ three ∷ []) long has_value form = omega arith
too_long (name ∷ one ∷ two ∷ three ∷ four ∷ more) long has_value form = form

-- words of which the first is no text are no command's
pub no_text : (words : List (List ℕ)) (first : List ℕ) (operands : Operands) → IsDivision words first operands → (has_value : Bool) → (¬ IsUtf8 first) → ¬ HasForm has_value words
no_text words first None are has_value none form = none (name_is_text has_value first [] (rw are at form))
no_text words first (One one) are has_value none form = none (name_is_text has_value first (one.now ∷ []) (rw are at form))
no_text words first (Two one two) are has_value none form = none (name_is_text has_value first (one.now ∷ two.now ∷ []) (rw are at form))
no_text words first (Three one two three) are has_value none form = none (name_is_text has_value first (one.now ∷ two.now ∷ three.now ∷ []) (rw are at form))
no_text words first More long has_value none form = too_long words long has_value form

-- the name of a command on a calendar is text
booking_is_text : (name : List ℕ) (operands : List (List ℕ)) → HasBookingForm (name ∷ operands) → IsUtf8 name
booking_is_text name [] form = rw form (letters_are_text (codes "iter") refl)
booking_is_text name (one ∷ []) form = absurd form
booking_is_text name (one ∷ two ∷ []) form = one_is_text (codes "cancel" ∷ codes "free" ∷ []) name refl form
booking_is_text name (one ∷ two ∷ three ∷ []) form = rw form (letters_are_text (codes "book") refl)
booking_is_text name (one ∷ two ∷ three ∷ four ∷ more) form = absurd form

-- five words or more are no command's on a calendar
too_long_booking : (words : List (List ℕ)) → 4 < length words → ¬ HasBookingForm words
too_long_booking [] long form = omega arith
too_long_booking (name ∷ []) long form = omega arith
too_long_booking (name ∷ one ∷ []) long form = omega arith
too_long_booking (name ∷ one ∷ two ∷ []) long form = omega arith
too_long_booking (name ∷ one ∷ two ∷ three ∷ []) long form = omega arith
too_long_booking (name ∷ one ∷ two ∷ three ∷ four ∷ more) long form = form

-- words of which the first is no text are no command's on a calendar
pub no_booking_text : (words : List (List ℕ)) (first : List ℕ) (operands : Operands) → IsDivision words first operands → (¬ IsUtf8 first) → ¬ HasBookingForm words
no_booking_text words first None are none form = none (booking_is_text first [] (rw are at form))
no_booking_text words first (One one) are none form = none (booking_is_text first (one.now ∷ []) (rw are at form))
no_booking_text words first (Two one two) are none form = none (booking_is_text first (one.now ∷ two.now ∷ []) (rw are at form))
no_booking_text words first (Three one two three) are none form = none (booking_is_text first (one.now ∷ two.now ∷ three.now ∷ []) (rw are at form))
no_booking_text words first More long none form = too_long_booking words long form
