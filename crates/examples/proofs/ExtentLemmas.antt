-- What a change of an extent table leaves.
use Rattle.std.proofs.Common.{arith, ◌≡◌, ℕ, ◌+◌, ◌%◌, ◌<◌, ◌≤◌, ◌^◌, Bool, true, false, cond, List, Option, Some, None, option_map, refl, sym, ap, ◌∙◌}
use Rattle.std.proofs.lemmas.Map.Keys.{le_from_is_le}
use Rattle.std.specs.Prelude.{nat_eq}
use Rattle.std.specs.declared.ops.RangeInclusive.{RangeInclusive}
use Rattle.std.specs.Range.{range_inclusive_start, range_inclusive_end}
use Rattle.rangemap.specs.Ranges.{IsCanonOf, erase, override, value_at}
use Rattle.rangemap.proofs.CallerLemmas.{value_of}
use Rattle.rangemap.proofs.NumberKinds.{closed_from, closed_holds, closed_to, unsigned}
use Rattle.rangemap.proofs.NumberLemmas.{same_number}
use Rattle.rangemap.proofs.PairLoopLemmas.{ComesFrom, IsStored}
use Rattle.examples.proofs.RingLemmas.{same_on_ring}
use Rattle.examples.specs.Extents.{IsOneToOne, IsOutside, IsUsed, LiesOn, blocks, place_of}

module _ (old new : List (RangeInclusive ℕ × ℕ)) (r : RangeInclusive ℕ) where
  placed : (shift : ℕ) → IsCanonOf blocks nat_eq (override blocks (value_at blocks old) r shift) new → (x : ℕ) → x < 2 ^ 32 → place_of new x ≡ cond (blocks.holds r x) (Some ((x + shift) % 2 ^ 32)) (place_of old x)
  placed shift ok x key = ap (option_map (λ s. (x + s) % 2 ^ 32)) (value_of same_number ok x key) ∙ by (blocks.holds r x)
    where
      by : (b : Bool) → option_map (λ s. (x + s) % 2 ^ 32) (cond b (Some shift) (value_at blocks old x)) ≡ cond b (Some ((x + shift) % 2 ^ 32)) (place_of old x)
      by true = refl
      by false = refl

  erased : IsCanonOf blocks nat_eq (erase blocks (value_at blocks old) r) new → (x : ℕ) → x < 2 ^ 32 → place_of new x ≡ cond (blocks.holds r x) None (place_of old x)
  erased ok x key = ap (option_map (λ s. (x + s) % 2 ^ 32)) (value_of same_number ok x key) ∙ by (blocks.holds r x)
    where
      by : (b : Bool) → option_map (λ s. (x + s) % 2 ^ 32) (cond b None (value_at blocks old x)) ≡ cond b None (place_of old x)
      by true = refl
      by false = refl

  -- a stretch that is mapped to physical blocks on which nothing lies
  pub one_to_one_mapped : (shift first last : ℕ) → IsOneToOne old → ¬ (IsUsed old first last)
      → ((x : ℕ) → range_inclusive_start r ≤ x → x ≤ range_inclusive_end r → (first ≤ (x + shift) % 2 ^ 32) × ((x + shift) % 2 ^ 32 ≤ last))
      → IsCanonOf blocks nat_eq (override blocks (value_at blocks old) r shift) new → IsOneToOne new
  one_to_one_mapped shift first last once free lies ok one other place one_key other_key one_is other_is =
      by (blocks.holds r one) refl (blocks.holds r other) refl (sym (placed shift ok one one_key) ∙ one_is) (sym (placed shift ok other other_key) ∙ other_is)
    where
      some_is : (a b : ℕ) → Some a ≡ Some b → a ≡ b
      some_is a b e = cc

      taken : (x y : ℕ) → y < 2 ^ 32 → blocks.holds r x ≡ true → Some ((x + shift) % 2 ^ 32) ≡ Some place → place_of old y ≡ Some place → ⊥
      taken x y key h here there =
          let at = lies x (closed_from unsigned (λ x. x < 2 ^ 32) r x h) (closed_to unsigned (λ x. x < 2 ^ 32) r x h) in
          let same : (x + shift) % 2 ^ 32 ≡ place = some_is ((x + shift) % 2 ^ 32) place here in
          free (record { block = y; is_block = key; place = place; is = there; from = omega (arith, same, at.0); to = omega (arith, same, at.1) })

      by : (b : Bool) → blocks.holds r one ≡ b → (t : Bool) → blocks.holds r other ≡ t
          → cond b (Some ((one + shift) % 2 ^ 32)) (place_of old one) ≡ Some place → cond t (Some ((other + shift) % 2 ^ 32)) (place_of old other) ≡ Some place → one ≡ other
      by true e true d h j = same_on_ring one other shift one_key other_key (some_is _ place h ∙ sym (some_is _ place j))
      by true e false d h j = absurd (taken one other other_key e h j)
      by false e true d h j = absurd (taken other one one_key d j h)
      by false e false d h j = once one other place one_key other_key h j

  pub one_to_one_punched : IsOneToOne old → IsCanonOf blocks nat_eq (erase blocks (value_at blocks old) r) new → IsOneToOne new
  one_to_one_punched once ok one other place one_key other_key one_is other_is =
      once one other place one_key other_key
      (by (blocks.holds r one) (place_of old one) (sym (erased ok one one_key) ∙ one_is))
      (by (blocks.holds r other) (place_of old other) (sym (erased ok other other_key) ∙ other_is))
    where
      by : (b : Bool) (o : Option ℕ) → cond b None o ≡ Some place → o ≡ Some place
      by true o h = absurd (cc)
      by false o h = h

-- ---- on which blocks nothing lies

-- no block of the extent lies on one of the physical blocks
abbrev pub outside : ℕ → ℕ → RangeInclusive ℕ × ℕ → Type 0
outside first last extent = IsOutside (range_inclusive_start extent.0) (range_inclusive_end extent.0) extent.1 first last

pub forward : (shifts : List (RangeInclusive ℕ × ℕ)) (extent : RangeInclusive ℕ × ℕ) → IsStored blocks shifts extent → range_inclusive_start extent.0 ≤ range_inclusive_end extent.0
forward shifts extent stored = le_from_is_le (range_inclusive_start extent.0) (range_inclusive_end extent.0) stored.range.non_empty.0

module _ (shifts : List (RangeInclusive ℕ × ℕ)) (first last : ℕ) where
  pub used_by : (extent : RangeInclusive ℕ × ℕ) (start end : ℕ) → start ≡ range_inclusive_start extent.0 → end ≡ range_inclusive_end extent.0 → IsStored blocks shifts extent → LiesOn start end extent.1 first last → IsUsed shifts first last
  used_by extent start end starts ends stored on =
      let key : on.block < 2 ^ 32 = omega (arith, ends, on.ahead, stored.range.end_is_key) in
      record {
        block = on.block;
        is_block = key;
        place = (on.block + extent.1) % 2 ^ 32;
        is = ap (option_map (λ shift. (on.block + shift) % 2 ^ 32)) (stored.value on.block key (closed_holds unsigned (λ x. x < 2 ^ 32) extent.0 on.block (omega (arith, starts, on.behind)) (omega (arith, ends, on.ahead))));
        from = on.from;
        to = on.to;
      }

  pub unused_by : ((block shift : ℕ) → value_at blocks shifts block ≡ Some shift → ComesFrom blocks (outside first last) block shift) → ¬ (IsUsed shifts first last)
  unused_by each used = by (value_at blocks shifts used.block) refl used.is
    where
      some_is : (a b : ℕ) → Some a ≡ Some b → a ≡ b
      some_is a b e = cc

      by : (o : Option ℕ) → value_at blocks shifts used.block ≡ o → option_map (λ shift. (used.block + shift) % 2 ^ 32) o ≡ Some used.place → ⊥
      by None is placed = absurd (cc)
      by (Some shift) is placed =
          let one = each used.block shift is in
          let there : (used.block + one.pair.1) % 2 ^ 32 ≡ used.place = ap (λ s. (used.block + s) % 2 ^ 32) one.is ∙ some_is _ used.place placed in
          one.kept used.block (closed_from unsigned (λ x. x < 2 ^ 32) one.pair.0 used.block one.holds) (closed_to unsigned (λ x. x < 2 ^ 32) one.pair.0 used.block one.holds) (omega (arith, there, used.from)) (omega (arith, there, used.to))
