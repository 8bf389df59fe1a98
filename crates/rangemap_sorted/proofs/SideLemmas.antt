-- The two sides of a stretch, from what is left of its first pair and of its last.
use Rattle.std.proofs.Common.{arith, ◌≡◌, ℕ, ◌-◌, ◌<◌, List, get_or, Option, Some, None, IfSome, refl, Bool, true, false}
use Rattle.std.specs.Option.{option_eq}
use Rattle.std.specs.Cmp.{IsEquivalence}
use Rattle.rangemap_core.specs.engine.Endpoints.{IsPlaced, EndpointOf, AtStart, AtEnd}
use Rattle.rangemap_core.specs.Ranges.{RangeKind, IsStorable, IsCanonical}
use Rattle.rangemap_core.specs.engine.Stretch.{IsStretch, IsLeftSide, IsRightSide, IsPiece}
use Rattle.rangemap_core.proofs.PlaceLemmas.{S, places, to_spaced}
use Rattle.rangemap_core.proofs.InsertSideLemmas.{left_of_equal, left_of_other, right_of_equal, right_of_other}
use Rattle.rangemap_sorted.specs.Sides.{IsSide}

module _ {K X V : Type 0} {k : RangeKind K X} {end_place : X → Option K} {part : EndpointOf X → EndpointOf X → X} (p : IsPlaced k end_place part) (eq : V → V → Bool) (e : IsEquivalence eq) (xs : List (X × V)) (c : IsCanonical k eq xs) (r : X) (value : Option V) (stored : IsStorable k r) (start end : ℕ)
    (st : IsStretch (S p eq) xs (r, value) start end) (more : start < end) (a : X × V) (piece : Option (X × V)) (is_taken : Bool) where
  pub left_from : a ≡ get_or xs start a → IsSide k end_place eq (AtStart a.0) (AtStart r) a.1 value piece is_taken → IsLeftSide (S p eq) xs (r, value) start end piece is_taken
  left_from is side = elim (option_eq eq (Some a.1) value) as (λ b. option_eq eq (Some a.1) value ≡ b → IsLeftSide (S p eq) xs (r, value) start end piece is_taken) [
    | true ↦ λ h. rw (side.no_piece h) (left_of_equal (S p eq) (places p eq) e xs (to_spaced p eq xs c) (r, value) (p.non_empty r stored) start end st a more is h is_taken (side.taken h))
    | false ↦ λ h. rw (side.not_taken h) (left_of_other (S p eq) (places p eq) e xs (to_spaced p eq xs c) (r, value) (p.non_empty r stored) start end st a more is h piece (side.cut h))
  ] refl

  pub right_from : a ≡ get_or xs (end - 1) a → IsSide k end_place eq (AtEnd r) (AtEnd a.0) a.1 value piece is_taken → IsRightSide (S p eq) xs (r, value) start end piece is_taken
  right_from is side = elim (option_eq eq (Some a.1) value) as (λ b. option_eq eq (Some a.1) value ≡ b → IsRightSide (S p eq) xs (r, value) start end piece is_taken) [
    | true ↦ λ h. rw (side.no_piece h) (right_of_equal (S p eq) (places p eq) e xs (to_spaced p eq xs c) (r, value) (p.non_empty r stored) start end st a more is h is_taken (side.taken h))
    | false ↦ λ h. rw (side.not_taken h) (right_of_other (S p eq) (places p eq) e xs (to_spaced p eq xs c) (r, value) (p.non_empty r stored) start end st a more is h piece (side.cut h))
  ] refl

pub piece_from : {K X V : Type 0} (k : RangeKind K X) (end_place : X → Option K) (eq : V → V → Bool) (start end : ℕ) → start < end → {w : V} {value : Option V} {piece : Option (X × V)} {is_taken : Bool} (from to : EndpointOf X) → IsSide k end_place eq from to w value piece is_taken → IsPiece k eq value start end piece
piece_from k end_place eq start end more {w} {value} {piece} from to side = record { storable = side.storable; of_a_stretch = λ h. absurd (omega (arith, more, h)); of_other_values = λ one. none_of value side.no_piece one }
  where
    none_of : (u : Option _) → (option_eq eq (Some w) u ≡ true → piece ≡ None) → ((v w : _) → eq v w ≡ true) → IfSome u (λ _. piece ≡ None)
    none_of None h one = tt
    none_of (Some v) h one = h (one w v)
