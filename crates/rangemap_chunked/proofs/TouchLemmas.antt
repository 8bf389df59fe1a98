-- The last pair of a chunk that starts no later than a range ends, found by a search; and how many pairs chunks have.
use Rattle.std.proofs.Common.{arith, ◌≡◌, inl, inr, ℕ, zero, suc, ◌+◌, ◌-◌, ◌<◌, ◌≤◌, true, false, List, [], ◌∷◌, length, take, drop, get_or, refl, sym, ap, ◌∙◌, true≢false, length-append, Less, is_gt}
use Rattle.std.proofs.lemmas.Bool.{cases_lt}
use Rattle.std.specs.Cmp.{IsTotalOrder}
use Rattle.rangemap_core.specs.engine.Shape.{PassesUpTo, Shape, starts_by}
use Rattle.rangemap_core.specs.engine.Stretch.{Every}
use Rattle.rangemap_core.proofs.SearchLemmas.{Every-drop}
use Rattle.rangemap_chunked.specs.Chunks.{IsLastTouched, chunk_below, chunk_by, starts_below, whole}
use Rattle.rangemap_chunked.proofs.ChunkLemmas.{whole_more, whole_parts}

one_passes : {X : Type 0} (Q : X → Type 0) (xs : List X) (at : ℕ) → ((k : ℕ) (d : X) → k < at + 1 → k < length xs → Q (get_or xs k d)) → Every Q (take 1 (drop at xs))
one_passes Q [] zero f = tt
one_passes Q [] (suc at) f = tt
one_passes Q (x ∷ xs) zero f = (f 0 x (omega arith) (omega arith), tt)
one_passes Q (x ∷ xs) (suc at) f = one_passes Q xs at (λ k d l m. f (suc k) d (omega (arith, l)) (omega (arith, m)))

module _ {G P V : Type 0} (s : Shape G P V) (o : IsTotalOrder s.order) (r : G) where
  by_le : (a : G × V) → starts_by s (s.end_place r) a ≡ true → is_gt (s.order (s.start_place a.0) (s.end_place r)) ≡ false
  by_le a h = grind (arith, o.antisymm (s.start_place a.0) (s.end_place r))

  not_by : (a : G × V) → starts_by s (s.end_place r) a ≡ false → s.order (s.end_place r) (s.start_place a.0) ≡ Less
  not_by a h = grind arith

  some_passes : (a : G × V) (xs : List (G × V)) (n : ℕ) → starts_by s (s.end_place r) a ≡ true → PassesUpTo (starts_by s (s.end_place r)) (a ∷ xs) n → 0 < n
  some_passes a xs n first point = elim (cases_lt 0 n) [
    | inl some ↦ some
    | inr none ↦ absurd (true≢false (sym first ∙ point.1 0 a (omega (arith, none)) (omega arith)))
  ]

  pub last_is : (xs : List (G × V)) → 0 < length xs → chunk_by s (s.end_place r) xs ≡ true → (n : ℕ) → n ≤ length xs → PassesUpTo (starts_by s (s.end_place r)) xs n → (at : ℕ) → at ≡ n - 1 → IsLastTouched s r xs at
  last_is [] some first n bound point at is = absurd (omega (arith, some))
  last_is (a ∷ xs) some first n bound point at is =
      let passes : 0 < n = some_passes a xs n first point in
      record {
        in_bounds = omega (arith, passes, bound, is);
        touched = one_passes (λ b. is_gt (s.order (s.start_place b.0) (s.end_place r)) ≡ false) (a ∷ xs) at (λ k d l m. by_le (get_or (a ∷ xs) k d) (point.0 k d (omega arith) (omega (arith, l, passes, is))));
        behind = Every-drop (λ b. s.order (s.end_place r) (s.start_place b.0) ≡ Less) (a ∷ xs) (at + 1) (λ k d l m. not_by (get_or (a ∷ xs) k d) (point.1 k d (omega (arith, l, passes, is)) m));
      }

-- a chunk that starts before a place
module _ {G P V : Type 0} (s : Shape G P V) (o : IsTotalOrder s.order) (p : P) where
  starts_before : (a : G × V) → starts_below s p a ≡ true → starts_by s p a ≡ true
  starts_before a h = grind (arith, h, o.antisymm (s.start_place a.0) p)

  pub below_by : (chunk : List (G × V)) → chunk_below s p chunk ≡ true → chunk_by s p chunk ≡ true
  below_by [] h = refl
  below_by (a ∷ rest) h = starts_before a h

module _ {X : Type 0} (chunks : List (List X)) (n : ℕ) (chunk : List X) (l : n < length chunks) (is : chunk ≡ get_or chunks n chunk) where
  pub counted_more : length (whole (take (n + 1) chunks)) ≡ length (whole (take n chunks)) + length chunk
  counted_more = ap length (whole_more chunks n chunk l) ∙ length-append (whole (take n chunks)) (get_or chunks n chunk) ∙ ap (λ (xs : List X). length (whole (take n chunks)) + length xs) (sym is)

  pub counted_fits : length (whole (take n chunks)) + length chunk ≤ length (whole chunks)
  counted_fits =
      let parts = ap length (whole_parts (n + 1) chunks) ∙ length-append (whole (take (n + 1) chunks)) (whole (drop (n + 1) chunks)) in
      let more = counted_more in
      omega (arith, parts, more)
