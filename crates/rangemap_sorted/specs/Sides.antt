-- What a change leaves of a stored pair that it meets.
use Rattle.std.specs.Prelude.{◌≡◌, Bool, true, false, Option, None, Some}
use Rattle.std.specs.Option.{option_eq, option_to_list}
use Rattle.rangemap_core.specs.Ranges.{RangeKind, IsStorable}
use Rattle.rangemap_core.specs.engine.Endpoints.{EndpointOf, is_before, place_of}
use Rattle.rangemap_core.specs.engine.Shape.{shape_of}
use Rattle.rangemap_core.specs.engine.Stretch.{Every, IsCut}

-- what reaches from one endpoint to the other of a pair: no piece of it is left where the values are equal, and it is taken in if
-- something lies between the two; else what lies between is the piece
pub record IsSide {K X V : Type 0} (k : RangeKind K X) (end_place : X → Option K) (eq : V → V → Bool) (from to : EndpointOf X) (stored : V) (value : Option V) (piece : Option (X × V)) (is_taken : Bool) : Type 0 where
  pub no_piece : option_eq eq (Some stored) value ≡ true → piece ≡ None
  pub taken : option_eq eq (Some stored) value ≡ true → is_taken ≡ is_before k end_place from to
  pub cut : option_eq eq (Some stored) value ≡ false → IsCut (shape_of k end_place eq) (place_of k end_place from) (place_of k end_place to) stored piece
  pub not_taken : option_eq eq (Some stored) value ≡ false → is_taken ≡ false
  pub storable : Every (λ a. IsStorable k a.0) (option_to_list piece)
