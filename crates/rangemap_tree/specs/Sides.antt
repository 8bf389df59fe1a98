-- What a change leaves of a list on either side, by the starts of its ranges.
use Rattle.std.specs.Prelude.{◌≡◌, Bool, true, false, List, ◌++◌, Option, None, IfSome}
use Rattle.std.specs.Option.{unwrap_or}
use Rattle.std.specs.declared.cmp.Ordering.{Ordering}
use Rattle.std.specs.declared.cmp.Ordering.TheVariants.{Equal}
use Rattle.std.specs.Ordering.{is_gt}
use Rattle.std.specs.declared.ops.Range.{Range}
use Rattle.rangemap_core.specs.Ranges.{half_open}
use Rattle.rangemap_core.specs.engine.PlacedKinds.{half_open_end_place}
use Rattle.rangemap_core.specs.engine.Shape.{Shape, shape_of}
use Rattle.rangemap_core.specs.engine.Stretch.{Every, IsLeftPart, IsRightPart}
use Rattle.rangemap_tree.specs.Starts.{before, behind_end, from, recut, piece_list, IsCutThere, IsNewAt}

module _ {K V : Type 0} (cmp : K → K → Ordering) (eq : V → V → Bool) where
  -- the shape of lists of half-open ranges
  abbrev pub shape : Shape (Range K) (Option K) V
  shape = shape_of (half_open cmp) half_open_end_place eq

  -- what a change of r to the value leaves before it: a range taken into the new one, or one that is cut, or neither
  pub record IsLeft (ps : List (Range K × V)) (r : Range K) (value : Option V) (start : Option K) (cut : Option (Range K)) : Type 0 where
    pub part : (m : Range K) → cmp m.start (unwrap_or start r.start) ≡ Equal → IsLeftPart shape ps (recut cut (before cmp m.start ps)) r m value
    pub cut_there : (x : K) → cmp x (unwrap_or start r.start) ≡ Equal → IsCutThere cmp x cut ps
    pub of_none : value ≡ None → start ≡ None

  -- the same after it, where what starts behind the end of r starts no earlier than the new end
  pub record IsRight (ps : List (Range K × V)) (r : Range K) (value : Option V) (end : Option K) (piece : Option (K × (Range K × V))) : Type 0 where
    pub part : (m : Range K) → cmp m.end (unwrap_or end r.end) ≡ Equal → IsRightPart shape ps (piece_list piece ++ from cmp m.end ps) r m value
    pub new_there : (x : K) → cmp x (unwrap_or end r.end) ≡ Equal → IsNewAt cmp x piece ps
    pub behind : (x : K) → cmp x (unwrap_or end r.end) ≡ Equal → Every (λ p. is_gt (cmp x p.0.start) ≡ false) (behind_end cmp value r.end ps)
    pub of_none : value ≡ None → end ≡ None
    pub of_other_values : ((v w : V) → eq v w ≡ true) → IfSome value (λ _. piece ≡ None)
