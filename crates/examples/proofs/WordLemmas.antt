-- The four ranges of `[a-zA-Z0-9_]` have its characters.
use Rattle.std.proofs.Common.{arith, ◌≡◌, ℕ, Bool, true, false, cond, ◌&&◌, ◌||◌, [], ◌∷◌, Some, None, is_some, is_le, refl, ap, ◌∙◌}
use Rattle.std.proofs.lemmas.Bool.Decides.{nat_tests}
use Rattle.std.specs.Ordering.{nat_cmp}
use Rattle.std.specs.declared.ops.RangeInclusive.{RangeInclusive}
use Rattle.std.specs.Range.{range_inclusive_start, range_inclusive_end}
use Rattle.rangemap.specs.Ranges.{covers}
use Rattle.examples.specs.CharClass.{characters, is_word}

-- the range goes from the first character to the last
abbrev pub IsFromTo : ℕ → ℕ → RangeInclusive ℕ → Type 0
IsFromTo first last r = (range_inclusive_start r ≡ first) × (range_inclusive_end r ≡ last)

found_in : (a b c d : Bool) {X : Type 0} (p q r s : X) → is_some (cond a (Some p) (cond b (Some q) (cond c (Some r) (cond d (Some s) None)))) ≡ (((a || b) || c) || d)
found_in true b c d p q r s = refl
found_in false true c d p q r s = refl
found_in false false true d p q r s = refl
found_in false false false true p q r s = refl
found_in false false false false p q r s = refl

tests_alike : (x : ℕ) (a b c d : Bool) → a ≡ (is_le (nat_cmp 97 x) && is_le (nat_cmp x 122)) → b ≡ (is_le (nat_cmp 65 x) && is_le (nat_cmp x 90)) → c ≡ (is_le (nat_cmp 48 x) && is_le (nat_cmp x 57)) → d ≡ (is_le (nat_cmp 95 x) && is_le (nat_cmp x 95)) → (((a || b) || c) || d) ≡ is_word x
tests_alike x a b c d h i j k = grind (arith, nat_tests)

pub word_points : (lower upper digit line : RangeInclusive ℕ) → IsFromTo 97 122 lower → IsFromTo 65 90 upper → IsFromTo 48 57 digit → IsFromTo 95 95 line → (x : ℕ) → covers characters (lower ∷ upper ∷ digit ∷ line ∷ []) x ≡ is_word x
word_points lower upper digit line l u d e x =
    found_in (characters.holds lower x) (characters.holds upper x) (characters.holds digit x) (characters.holds line x) lower upper digit line
    ∙ tests_alike x (characters.holds lower x) (characters.holds upper x) (characters.holds digit x) (characters.holds line x) (tested lower 97 122 l) (tested upper 65 90 u) (tested digit 48 57 d) (tested line 95 95 e)
  where
    tested : (r : RangeInclusive ℕ) (first last : ℕ) → IsFromTo first last r → characters.holds r x ≡ (is_le (nat_cmp first x) && is_le (nat_cmp x last))
    tested r first last h = ap (λ a. is_le (nat_cmp a x) && is_le (nat_cmp x (range_inclusive_end r))) h.0 ∙ ap (λ b. is_le (nat_cmp first x) && is_le (nat_cmp x b)) h.1
