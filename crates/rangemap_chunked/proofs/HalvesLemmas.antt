-- A list whose two halves were changed, each at one place.
use Rattle.std.proofs.Common.{arith, ◌≡◌, ℕ, ◌+◌, ◌-◌, ◌<◌, List, ◌++◌, length, take, drop, get_or, sym, ap, ◌∙◌}
use Rattle.std.proofs.Math.ListN.{set}
use Rattle.std.proofs.lemmas.List.{get_or-drop, get_or-take, get_or_default, length-set, length-take-le, set-append_left, set-append_right, set-get_or, take-append-drop, take_at}

-- a place of a list, and one behind it
pub record IsSpan {X : Type 0} (xs : List X) (at last : ℕ) : Type 0 where
  pub order : at < last
  pub bound : last < length xs

-- a list that was lent in two halves, of which the second begins at the last place
pub record AreHalves {X : Type 0} (xs : List X) (at last : ℕ) (front back : List X) (all : ℕ) : Type 0 where
  pub span : IsSpan xs at last
  pub front_is : front ≡ take last xs
  pub back_is : back ≡ drop last xs
  pub all_is : all ≡ length xs

pub halves_lent : {X : Type 0} {xs : List X} {at last : ℕ} {front back : List X} {all : ℕ} (lent : List X) → IsSpan xs at last → lent ≡ xs → length lent ≡ all → front ≡ take last lent → back ≡ drop last lent → AreHalves xs at last front back all
halves_lent {last = last} lent span is len front_is back_is = record {
  span = span;
  front_is = front_is ∙ ap (take last) is;
  back_is = back_is ∙ ap (drop last) is;
  all_is = sym len ∙ ap length is;
}

module _ {X : Type 0} {xs : List X} {at last : ℕ} {front back : List X} {all : ℕ} (h : AreHalves xs at last front back all) where
  front_length : length front ≡ last
  front_length = ap length h.front_is ∙ length-take-le last xs (omega arith)

  pub front_bound : at < length front
  front_bound = let len = front_length in omega (arith, len)

  -- what stands at the places
  pub first_at : (d e : X) → get_or front at d ≡ get_or xs at e
  first_at d e = ap (λ ys. get_or ys at d) h.front_is ∙ get_or-take last xs at d h.span.order ∙ get_or_default xs at d e (omega arith)

  pub last_at : (d e : X) → get_or back 0 d ≡ get_or xs last e
  last_at d e = let sum : last + 0 ≡ last = omega arith in ap (λ ys. get_or ys 0 d) h.back_is ∙ get_or-drop last xs 0 d ∙ ap (λ n. get_or xs n d) sum ∙ get_or_default xs last d e h.span.bound

  module _ (rest : List X) (a b : X) where
    pub halves_changed : take all (set front at a ++ set back 0 b ++ rest) ≡ set (set xs at a) last b
    halves_changed =
        let parts : front ++ back ≡ xs = (λ i. h.front_is i ++ h.back_is i) ∙ take-append-drop last xs in
        let none : last - last ≡ 0 = omega arith in
        let both : set (set xs at a) last b ≡ set front at a ++ set back 0 b =
        ap (λ ys. set (set ys at a) last b) (sym parts) ∙ ap (λ ys. set ys last b) (set-append_left front back at a front_bound)
        ∙ set-append_right (set front at a) back last last b (length-set front at a ∙ front_length) (omega arith) ∙ ap (λ n. set front at a ++ set back n b) none in
        take_at (set front at a ++ set back 0 b) rest all (ap length (sym both) ∙ length-set (set xs at a) last b ∙ length-set xs at a ∙ sym h.all_is) ∙ sym both

    -- where each is put in its own place the list is as it was
    pub halves_kept : (d e : X) → a ≡ get_or front at d → b ≡ get_or back 0 e → take all (set front at a ++ set back 0 b ++ rest) ≡ xs
    halves_kept d e a_is b_is =
        halves_changed ∙ ap (λ y. set (set xs at y) last b) (a_is ∙ first_at d d) ∙ ap (λ ys. set ys last b) (set-get_or xs at d)
        ∙ ap (λ y. set xs last y) (b_is ∙ last_at e e) ∙ set-get_or xs last e
