-- What a command does to a container.
use Rattle.std.specs.Prelude.{◌≡◌, Bool, ℕ, List, []}
use Rattle.std.specs.declared.fmt.Debug.{Ghosts as DebugGhosts}
use Rattle.rangemap_core.specs.declared.key_range.KeyRange.{Ghosts as KeyRangeGhosts}
use Rattle.rangemap_core.specs.Ranges.{RangeKind, IsCanonOf, erase, override, value_at}
use Rattle.rangerun_library.specs.declared.command.Command.{Command}
use Rattle.rangerun_library.specs.declared.command.Command.TheVariants.{Insert, Remove, Clear}

-- It was carried out on a container of the pairs `old`, which left the pairs `new`: an insert of some value at the range that has
-- the ends given, a removal of that range, a clear. A question changes nothing. Which value it is that is inserted is only tested.
abbrev pub IsCarriedOut : {R V : Type 0} {ranges : KeyRangeGhosts R ℕ} {prints : DebugGhosts R} → RangeKind ℕ R → (V → V → Bool) → List (R × V) → Command R ranges prints → List (R × V) → Type 0
IsCarriedOut {R} {V} {ranges} k eq old (Insert span _) new = (range : R) × (value : V) × (ranges.read.start range ≡ span.start) × (ranges.read.end range ≡ span.end) × IsCanonOf k eq (override k (value_at k old) range value) new
IsCarriedOut {R} {V} {ranges} k eq old (Remove span) new = (range : R) × (ranges.read.start range ≡ span.start) × (ranges.read.end range ≡ span.end) × IsCanonOf k eq (erase k (value_at k old) range) new
IsCarriedOut k eq old Clear new = new ≡ []
IsCarriedOut k eq old _ new = new ≡ old
