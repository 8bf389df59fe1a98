-- What gaps are to the range that they lie in, beside the keys that are covered.
use Rattle.std.specs.Prelude.{◌≡◌, Bool, false, ◌&&◌, ◌||◌, List}
use Rattle.std.specs.List.{All, AllPairs}
use Rattle.rangemap_core.specs.Ranges.{RangeKind, covers}

-- The keys of the gaps and those that are covered share nothing, and together they are all the keys of q.
-- No gap is empty, and no two touch.
pub record IsPartition {K X : Type 0} (k : RangeKind K X) (q : X) (gaps : List X) (is_covered : K → Bool) : Type 0 where
  pub apart : (x : K) → k.is_key x → (covers k gaps x && is_covered x) ≡ false
  pub together : (x : K) → k.is_key x → (covers k gaps x || (k.holds q x && is_covered x)) ≡ k.holds q x
  pub non_empty : All k.IsNonEmpty gaps
  pub none_touch : AllPairs (λ r s. ¬ (k.Touches r s)) gaps
