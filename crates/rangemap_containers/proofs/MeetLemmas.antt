-- A range on which a function is undefined overlaps nothing of its list.
use Rattle.std.proofs.Common.{◌≡◌, Bool, true, false, List, [], Option, Some, None, is_some, refl, sym, ap, ◌∙◌, true≢false}
use Rattle.std.specs.Option.{option_eq}
use Rattle.rangemap_core.specs.engine.Endpoints.{IsPlaced, EndpointOf}
use Rattle.rangemap_core.specs.Ranges.{RangeKind, IsStorable, IsCanonOf, overlapped, value_at}
use Rattle.rangemap_containers.specs.Histories.{IsUndefinedOn}
use Rattle.rangemap_core.proofs.StoredKeyLemmas.{none_meets_where_free}
use Rattle.rangemap_core.proofs.UnitValueLemmas.{value_covers}

pub meets_none : {K X V : Type 0} (k : RangeKind K X) {end_place : X → Option K} {part : EndpointOf X → EndpointOf X → X} (p : IsPlaced k end_place part)
    (eq : V → V → Bool) (f : K → Option V) (list : List (X × V)) (r : X) → IsCanonOf k eq f list → IsStorable k r → IsUndefinedOn k f r → overlapped k list r ≡ []
meets_none {V = V} k p eq f list r is stored none =
    none_meets_where_free p eq r stored list is.canonical (λ x key h. sym (value_covers k list x) ∙ ap is_some (go (value_at k list x) (f x) (is.represents x key) (none x key h)))
  where
    go : (o u : Option V) → option_eq eq o u ≡ true → u ≡ None → o ≡ None
    go None u q h = refl
    go (Some v) None q h = absurd (true≢false (sym q))
    go (Some v) (Some w) q h = absurd (cc)
