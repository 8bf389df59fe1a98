-- A row of places turned by two: two values are taken out, all others moved, and the two put back at the other end.
use Rattle.std.proofs.Common.{arith, ◌≡◌, inl, inr, ℕ, ◌+◌, ◌-◌, ◌<◌, ◌≤◌, true, false, List, ◌++◌, length, take, drop, refl, sym, ap, ◌∙◌, subst}
use Rattle.std.proofs.lemmas.Bool.{cases_lt}
use lib.ListN.{get_or, set, length-set}
use lib.Seq.{get_or-set_same, get_or-set_other}
use Rattle.core.specs.List.{RotatedLeft}
use Rattle.core.specs.Mem.Slots.{Holds, IsMoved, Refills, SamePlaces}
use Rattle.core.specs.Mem.Slots.Ownership.{Filled}
use Rattle.core.specs.declared.slots.Slots.{Slots}
use Rattle.core.proofs.num.Ints.{cases}
use Rattle.core.proofs.slice.Heaps.{same_or_not}
use Rattle.core.proofs.slice.Lists.{any-default}
use Rattle.core.proofs.slice.Writes.{rotated_by_places}

-- what stands at a place after a first value was put at `to` and a second behind it
put_two : {Y : Type 0} (ys zs us : List Y) (to : ℕ) (first second : Y) → zs ≡ set ys to first → us ≡ set zs (to + 1) second → to + 1 < length ys → (k : ℕ) (d x : Y) → (k ≡ to → first ≡ x) → (k ≡ to + 1 → second ≡ x) → ((k ≡ to → ⊥) → (k ≡ to + 1 → ⊥) → get_or ys k d ≡ x) → get_or us k d ≡ x
put_two ys zs us to first second put_first put_second fits k d x at_first at_second at_other =
    let long : length zs ≡ length ys = ap length put_first ∙ length-set ys to first in
    ap (λ l. get_or l k d) put_second ∙ cases (same_or_not k (to + 1))
    (λ is. ap (λ i. get_or (set zs (to + 1) second) i d) is ∙ get_or-set_same zs (to + 1) second d (omega arith) ∙ at_second is)
    (λ behind. get_or-set_other zs (to + 1) k second d (omega arith) ∙ ap (λ l. get_or l k d) put_first ∙ cases (same_or_not k to)
    (λ is. ap (λ i. get_or (set ys to first) i d) is ∙ get_or-set_same ys to first d (omega arith) ∙ at_first is)
    (λ apart. get_or-set_other ys to k first d (omega arith) ∙ at_other (omega arith) (omega arith)))

-- the values of a are taken out at `from`, those from `others` on moved to `place`, and the two put at `to`
module _ {X : Type 0} {a b c d e f : Slots X} (from to others place rest : ℕ) {first second : X}
    (places : SamePlaces a b × SamePlaces b c × SamePlaces c d × SamePlaces d e × SamePlaces e f)
    (taken : (first ≡ get_or a.items from first) × (b.items ≡ a.items) × (second ≡ get_or b.items (from + 1) second) × (c.items ≡ b.items))
    (moved : IsMoved c d others place rest) (filled : Filled d.filled place (place + rest))
    (put_first : (e.items ≡ set d.items to first) × (e.filled ≡ set d.filled to true))
    (put_second : (f.items ≡ set e.items (to + 1) second) × (f.filled ≡ set e.filled (to + 1) true)) where
  -- the value at k comes from j
  abbrev pub Comes : ℕ → ℕ → Type 0
  Comes k j = (k ≡ to → j ≡ from) × (k ≡ to + 1 → j ≡ from + 1) × ((k ≡ to → ⊥) → (k ≡ to + 1 → ⊥) → (place ≤ k) × (k < place + rest) × (j + place ≡ others + k))

  module _ (there : (from + 1 < a.len) × (to + 1 < a.len)) where
    full : ((k : ℕ) → k < a.len → (k ≡ to → ⊥) → (k ≡ to + 1 → ⊥) → (place ≤ k) × (k < place + rest)) → Refills a f
    full beside =
        let count : d.len ≡ a.len = places.2.count ∙ places.1.count ∙ places.0.count in
        let count_all : f.len ≡ a.len = places.4.count ∙ places.3.count ∙ count in
        let long = d.ok.1 in
        record {
          places = record { start = places.4.start ∙ places.3.start ∙ places.2.start ∙ places.1.start ∙ places.0.start; count = count_all };
          full = λ k _ l. put_two d.filled e.filled f.filled to true true put_first.1 put_second.1 (omega (arith, there.1, count, long)) k false true (λ _. refl) (λ _. refl)
              (λ p q. let inside = beside k (omega (arith, l, count_all)) p q in filled k inside.0 inside.1);
        }

    comes : (k j : ℕ) (x : X) → Comes k j → get_or f.items k x ≡ get_or a.items j x
    comes k j x from_there =
        let count : d.len ≡ a.len = places.2.count ∙ places.1.count ∙ places.0.count in
        let long = d.ok.0 in
        let long_before = a.ok.0 in
        put_two d.items e.items f.items to first second put_first.0 put_second.0 (omega (arith, there.1, count, long)) k x (get_or a.items j x)
        (λ is. taken.0 ∙ any-default a.items from first x (omega (arith, there.0, long_before)) ∙ ap (λ i. get_or a.items i x) (sym (from_there.0 is)))
        (λ is. taken.2 ∙ ap (λ l. get_or l (from + 1) second) taken.1 ∙ any-default a.items (from + 1) second x (omega (arith, there.0, long_before)) ∙ ap (λ i. get_or a.items i x) (sym (from_there.1 is)))
        (λ p q.
        let other = from_there.2 p q in
        let here : k ≡ place + (k - place) = omega (arith, other.0) in
        let source : others + (k - place) ≡ j = omega (arith, other.0, other.2) in
        ap (λ i. get_or d.items i x) here ∙ moved (k - place) x (omega (arith, other.0, other.1)) ∙ ap (λ l. get_or l (others + (k - place)) x) (taken.3 ∙ taken.1) ∙ ap (λ i. get_or a.items i x) source)

    -- so the row is turned by m, where each value comes from m places on
    pub turned : (m : ℕ) → m ≤ a.len → ((k : ℕ) → k + m < a.len → Comes k (k + m)) → ((k : ℕ) → a.len ≤ k + m → k < a.len → Comes k (k + m - a.len)) → Refills a f × RotatedLeft a.items f.items a.len m
    turned m fits before behind = (
      full (λ k l p q. elim (cases_lt (k + m) a.len) [
        | inl less ↦ let other = (before k less).2 p q in (other.0, other.1)
        | inr more ↦ let other = (behind k more l).2 p q in (other.0, other.1)
      ]),
      (λ k x l. comes k (k + m) x (before k l), λ k x more l. comes k (k + m - a.len) x (behind k more l)),
    )

-- a slice whose row was turned by so many, counted from the row's length
pub turned_slice : {X : Type 0} (row back : Slots X) (xs ys : List X) → Holds row xs → ys ≡ back.items → (count : ℕ → ℕ) → count (length xs) ≤ length xs → Refills row back × RotatedLeft row.items back.items row.len (count row.len) → ys ≡ drop (count (length xs)) xs ++ take (count (length xs)) xs
turned_slice row back xs ys holds are count fits turned =
    let first : row.len ≡ length xs = row.ok.0 ∙ ap length holds.are in
    let long : length ys ≡ length xs = ap length are ∙ sym back.ok.0 ∙ turned.0.places.count ∙ first in
    rotated_by_places xs ys (count (length xs)) fits long (subst (λ t. t) (λ i. RotatedLeft (holds.are i) (sym are i) (first i) (count (first i))) turned.1)
