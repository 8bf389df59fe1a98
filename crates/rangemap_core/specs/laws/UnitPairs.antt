-- Lists of ranges are equal range by range just where they are with the value that says nothing.
use Rattle.std.proofs.Common.{◌≡◌, true, ◌&&◌, List, [], ◌∷◌, refl, sym, ap, ◌∙◌}
use Rattle.std.proofs.Math.Bool.{and-true}
use Rattle.rangemap_core.specs.Ranges.{RangeKind, same_pairs, unit_eq, with_unit, same_range, same_ranges}

pub same_with_unit : {K X : Type 0} (k : RangeKind K X) (rs ss : List X) → same_ranges k rs ss ≡ same_pairs k (unit_eq k) (with_unit k rs) (with_unit k ss)
same_with_unit k [] [] = refl
same_with_unit k [] (s ∷ ss) = refl
same_with_unit k (r ∷ rs) [] = refl
same_with_unit k (r ∷ rs) (s ∷ ss) =
    ap (λ b. b && same_ranges k rs ss) (sym (and-true (same_range k r s)))
    ∙ ap (λ b. (same_range k r s && true) && b) (same_with_unit k rs ss)
