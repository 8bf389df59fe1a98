-- For callers that loop over the ranges of a set: what each of them is.
use Rattle.std.proofs.Common.{◌≡◌, ◌∙◌, ◌++◌, ◌∷◌, ap, map, subst, sym, true, List, Option, Some}
use Rattle.std.specs.Borrow.{Bor}
use Rattle.std.specs.List.{AllByRecursion}
use Rattle.std.specs.Map.Iter.{deref}
use Rattle.std.proofs.lemmas.Map.Iter.{rest_more, rest_so_far}
use Rattle.rangemap_core.specs.Ranges.{RangeKind, covers}
use Rattle.rangemap_core.specs.Sets.{IsCanonicalSet}
use Rattle.rangemap.proofs.LoopLemmas.{canonical_full, covers_middle, full_middle}
use Rattle.rangemap.proofs.Loops.{LendsRanges}

-- The range is not empty, and the set has each key of it.
pub record IsRangeOf {K X : Type 0} (k : RangeKind K X) (set : List X) (range : X) : Type 0 where
  pub non_empty : k.IsNonEmpty range
  pub covered : (x : K) → k.holds range x ≡ true → covers k set x ≡ true

module _ {K X : Type 0} (k : RangeKind K X) where
  -- at a turn of a loop over `set.iter()` the item is a range of the set
  pub set_item_is_stored : {set : List X} → IsCanonicalSet k set → {items : List (Bor X)} {result : Option (Bor X)} → LendsRanges set items result → {item : Bor X} → result ≡ Some item → IsRangeOf k set item.now
  set_item_is_stored {set} canonical {items} {result} lends {item} some =
      let so_far = rest_so_far deref items lends.start lends.left lends.so_far in
      let more = rest_more deref lends.left lends.new result item some lends.step in
      let all : set ≡ map deref items ++ item.now ∷ lends.new = sym lends.all ∙ (sym lends.is ∙ (so_far ∙ ap (λ rest. map deref items ++ rest) more)) in
      record {
        non_empty = full_middle k (map deref items) item.now lends.new (subst (AllByRecursion k.IsNonEmpty) all (canonical_full k set canonical));
        covered = λ x holds. subst (λ list. covers k list x ≡ true) (sym all) (covers_middle k (map deref items) item.now lends.new x holds);
      }
