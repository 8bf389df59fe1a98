-- What the operators make of point functions.
use Rattle.std.specs.Prelude.{Option, None, is_some, if◌then◌else◌}

-- f, and where f is not defined g
abbrev pub either : {K V : Type 0} → (K → Option V) → (K → Option V) → K → Option V
either f g x = if is_some (f x) then f x else g x

-- f, where g is defined too
abbrev pub common : {K V : Type 0} → (K → Option V) → (K → Option V) → K → Option V
common f g x = if is_some (g x) then f x else None

-- f, where g is not defined
abbrev pub without : {K V : Type 0} → (K → Option V) → (K → Option V) → K → Option V
without f g x = if is_some (g x) then None else f x

-- f where g is not defined, and g where f is not
abbrev pub one_only : {K V : Type 0} → (K → Option V) → (K → Option V) → K → Option V
one_only f g x = if is_some (f x) then without f g x else g x
