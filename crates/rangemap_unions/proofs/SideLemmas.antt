-- What two ranges have in common, when it is made.
use Rattle.std.proofs.Common.{◌≡◌, Bool, true, false, true≢false, ◌&&◌, cond, List, ◌∷◌, Some, ap, refl, sym, ◌∙◌}
use Rattle.rangemap_core.specs.MadeRanges.{IsSame, TakesRange}
use Rattle.rangemap_core.specs.Ranges.{RangeKind}
use Rattle.rangemap_unions.specs.Items.{earlier_end, later_start, reaches, with_common}
use Rattle.rangemap_core.specs.operations.Places.{RangePlaces}

module _ {X P : Type 0} (l : RangePlaces P X) (a b first last : X) where
  pub common_none : ((reaches l a b && reaches l b a) ≡ true → reaches l last first ≡ true) → reaches l last first ≡ false → (rest : List X) → with_common l a b rest ≡ rest
  common_none reached apart rest = by (reaches l a b && reaches l b a) refl
    where
      by : (t : Bool) → (reaches l a b && reaches l b a) ≡ t → with_common l a b rest ≡ rest
      by true is = absurd (true≢false (sym (reached is) ∙ apart))
      by false is = ap (λ t. cond t (l.between (later_start l a b) (earlier_end l a b) ∷ rest) rest) is

module _ {K X P : Type 0} (k : RangeKind K X) (l : RangePlaces P X) (a b first last : X) (starts : first ≡ later_start l a b) (ends : last ≡ earlier_end l a b) (both : (reaches l a b && reaches l b a) ≡ true) where
  pub common_made : (range : X) → IsSame k (l.between first last) range → (rest : List X) → TakesRange k (with_common l a b rest) (Some range) rest
  common_made range same rest = (l.between first last, all, same)
    where
      all : with_common l a b rest ≡ l.between first last ∷ rest
      all = ap (λ t. cond t (l.between (later_start l a b) (earlier_end l a b) ∷ rest) rest) both
          ∙ ap (λ r. l.between r (earlier_end l a b) ∷ rest) (sym starts)
          ∙ ap (λ r. l.between first r ∷ rest) (sym ends)
