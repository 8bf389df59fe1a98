-- What calls on a list of containers make of the point functions that these stand for, and those of maps alone. `SetHistories` has
-- those of sets.
pub use Rattle.rangemap_containers.specs.Histories.{AreCanonOf, ChangeStep, Changes, HasNonEmptyRange, IsDefinedOn, IsUndefinedOn, Makes, MakesAll, Run}
pub use Rattle.rangemap_maps.specs.MapHistories.{HasNonEmptyRanges, Step}
