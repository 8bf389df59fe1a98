-- One step of a difference: a part that may be free, and what is behind it.
use Rattle.std.proofs.Common.{◌≡◌, ◌≢◌, true, false, cond, List, [], ◌∷◌, Option, Some, None, MatchOption, OnErr, Result, Ok, Err, option_map, is_some, refl, sym, ap, subst, ◌∙◌, true≢false}
use Rattle.rangemap_core.specs.MadeRanges.{IsSame, TakesRange}
use Rattle.rangemap_core.specs.Ranges.{RangeKind}
use Rattle.rangemap_core.specs.Sets.{ranges}
use Rattle.rangemap_core.specs.Shown.{shown, shown_range}
use Rattle.rangemap_core.specs.engine.Endpoints.{EndpointOf, AtEnd, is_before, part_before}
use Rattle.rangemap_core.specs.engine.PartStarts.{part_start}
use Rattle.rangemap_unions.specs.Parts.{difference_items, next_end, part_end, parts_behind, parts_left}

module _ {K X : Type 0} (k : RangeKind K X) (end_place : X → Option K) where
  -- `next` is the first range of a list, and ends behind the endpoint
  abbrev pub IsNext : EndpointOf X → Option X → List X → Type 0
  IsNext from next qs = MatchOption next (qs ≡ []) (λ q. (rest : List X) × (qs ≡ q ∷ rest) × (is_before k end_place from (AtEnd q) ≡ true))

  pub next_shown : {G W V : Type 0} (given : G → X) (given_value : W → V) (from : EndpointOf X) (next : Option (G × W)) (pairs : List (X × V))
      → MatchOption next (pairs ≡ []) (λ pair. (rest : List (X × V)) × (pairs ≡ shown given given_value pair ∷ rest) × (is_before k end_place from (AtEnd (shown_range given pair)) ≡ true))
      → IsNext from (option_map (shown_range given) next) (ranges pairs)
  next_shown given given_value from None pairs h = ap ranges h
  next_shown given given_value from (Some pair) pairs h = (ranges h.0, ap ranges h.1, h.2)

module _ {K X : Type 0} (k : RangeKind K X) (end_place : X → Option K) (part : EndpointOf X → EndpointOf X → X) where
  -- nothing was passed yet
  pub none_passed : (ps qs : List X) → parts_left k end_place part None ps qs ≡ difference_items k end_place part ps qs
  none_passed [] qs = refl
  none_passed (p ∷ ps) qs = refl

  -- a range that ends before a part may start is left out
  pub skipped : (passed : Option X) (p : X) (ps : List X) (from : EndpointOf X) (q : X) (qs rights : List X) → from ≡ part_start passed p → rights ≡ q ∷ qs → is_before k end_place from (AtEnd q) ≡ false
      → parts_left k end_place part passed (p ∷ ps) rights ≡ parts_left k end_place part passed (p ∷ ps) qs
  skipped passed p ps from q qs rights starts is early =
      ap (λ rs. parts_left k end_place part passed (p ∷ ps) rs) is
      ∙ ap (λ b. cond b (part_before k end_place part (part_start passed p) (part_end k end_place q p) (parts_behind k end_place part p ps (q ∷ qs))) (parts_left k end_place part passed (p ∷ ps) qs))
      (ap (λ a. is_before k end_place a (AtEnd q)) (sym starts) ∙ early)

  next_part : (passed : Option X) (p : X) (ps : List X) (next : Option X) (qs : List X) → IsNext k end_place (part_start passed p) next qs
      → parts_left k end_place part passed (p ∷ ps) qs ≡ part_before k end_place part (part_start passed p) (next_end k end_place next p) (parts_behind k end_place part p ps qs)
  next_part passed p ps None qs h =
      ap (λ rs. parts_left k end_place part passed (p ∷ ps) rs) h
      ∙ ap (λ rs. part_before k end_place part (part_start passed p) (next_end k end_place None p) (parts_behind k end_place part p ps rs)) (sym h)
  next_part passed p ps (Some q) qs h =
      ap (λ rs. parts_left k end_place part passed (p ∷ ps) rs) h.1
      ∙ ap (λ b. cond b (part_before k end_place part (part_start passed p) (part_end k end_place q p) (parts_behind k end_place part p ps (q ∷ h.0))) (parts_left k end_place part passed (p ∷ ps) h.0)) h.2
      ∙ ap (λ rs. part_before k end_place part (part_start passed p) (next_end k end_place (Some q) p) (parts_behind k end_place part p ps rs)) (sym h.1)

  pub step : (passed : Option X) (p : X) (ps lefts : List X) (next : Option X) (qs : List X) (from to : EndpointOf X)
      → lefts ≡ p ∷ ps → from ≡ part_start passed p → to ≡ next_end k end_place next p → IsNext k end_place from next qs
      → parts_left k end_place part passed lefts qs ≡ part_before k end_place part from to (parts_behind k end_place part p ps qs)
  step passed p ps lefts next qs from to left starts ends is_next =
      ap (λ rs. parts_left k end_place part passed rs qs) left
      ∙ next_part passed p ps next qs (subst (λ a. IsNext k end_place a next qs) starts is_next)
      ∙ ap (λ a. part_before k end_place part a (next_end k end_place next p) (parts_behind k end_place part p ps qs)) (sym starts)
      ∙ ap (λ a. part_before k end_place part from a (parts_behind k end_place part p ps qs)) (sym ends)

  module _ (from to : EndpointOf X) (old behind left : List X) (found : Option X) (comes : old ≡ part_before k end_place part from to behind) (left-is : left ≡ behind)
      (made : MatchOption found (is_before k end_place from to ≡ false) (λ r. (is_before k end_place from to ≡ true) × IsSame k (part from to) r)) where
    is : old ≡ part_before k end_place part from to left
    is = comes ∙ ap (part_before k end_place part from to) (sym left-is)

    pub part_taken : is_some found ≡ true → TakesRange k old found left
    part_taken some = by found made some
      where
        by : (f : Option X) → MatchOption f (is_before k end_place from to ≡ false) (λ r. (is_before k end_place from to ≡ true) × IsSame k (part from to) r) → is_some f ≡ true → TakesRange k old f left
        by None m s = absurd (true≢false (sym s))
        by (Some r) m s = (part from to, is ∙ ap (λ t. cond t (part from to ∷ left) left) m.0, m.1)

    pub part_passed : is_some found ≡ false → old ≡ left
    part_passed none = by found made none
      where
        by : (f : Option X) → MatchOption f (is_before k end_place from to ≡ false) (λ r. (is_before k end_place from to ≡ true) × IsSame k (part from to) r) → is_some f ≡ false → old ≡ left
        by None m s = is ∙ ap (λ t. cond t (part from to ∷ left) left) m
        by (Some r) m s = absurd (true≢false s)

  -- a part that has a key is still to come
  pub not_over : (from to : EndpointOf X) (old behind : List X) → old ≡ part_before k end_place part from to behind → is_before k end_place from to ≡ true → old ≢ []
  not_over from to old behind is has_key none = let some : [] ≡ part from to ∷ behind = sym none ∙ is ∙ ap (λ t. cond t (part from to ∷ behind) behind) has_key in cc

-- what holds anyway holds of a refusal
pub on_err : {A E P : Type 0} (r : Result A E) → P → OnErr r P
on_err (Ok a) h = tt
on_err (Err e) h = h
