-- What is mapped at an address, and what may be done there.
use Rattle.std.specs.Prelude.{◌≡◌, ℕ, ◌+◌, ◌<◌, ◌≤◌, ◌&&◌, Bool, true, List, Option, None, Some, Result, Ok, Err, cond}
use Rattle.std.specs.Ordering.{nat_cmp}
use Rattle.std.specs.declared.ops.Range.{Range}
use Rattle.rangemap.specs.Ranges.{half_open, value_at}
use Rattle.examples.specs.declared.memory_map.Access.{Access}
use Rattle.examples.specs.declared.memory_map.Access.TheVariants.{Read, Write, Execute}
use Rattle.examples.specs.declared.memory_map.Fault.{Fault}
use Rattle.examples.specs.declared.memory_map.Fault.TheVariants.{Unmapped, Forbidden}
use Rattle.examples.specs.declared.memory_map.Region.{Region}

-- the region at an address, by the stored ranges
abbrev pub region_at : List (Range ℕ × Region) → ℕ → Option Region
region_at list = value_at (half_open nat_cmp) list

-- whether a region allows an access
abbrev pub allows : Region → Access → Bool
allows region Read = true
allows region Write = region.writable
allows region Execute = region.executable

-- what an access meets where a region is, or none
abbrev pub answer : Option Region → Access → Result (Unit {0}) Fault
answer None access = Err Unmapped
answer (Some region) access = cond (allows region access) (Ok tt) (Err Forbidden)

-- what an access meets at an address
abbrev pub answer_at : List (Range ℕ × Region) → ℕ → Access → Result (Unit {0}) Fault
answer_at list at access = answer (region_at list at) access

-- nothing is mapped from the first address up to, and without, the second
abbrev pub IsFree : List (Range ℕ × Region) → ℕ → ℕ → Type 0
IsFree list start end = (at : ℕ) → start ≤ at → at < end → region_at list at ≡ None

-- so many addresses from `first` on are free and below the end, and from no lower one on are as many
pub record IsLowestFree (list : List (Range ℕ × Region)) (start end size first : ℕ) : Type 0 where
  pub from : start ≤ first
  pub fits : first + size ≤ end
  pub free : IsFree list first (first + size)
  pub lowest : (lower : ℕ) → start ≤ lower → lower < first → ¬ (IsFree list lower (lower + size))

-- the file stands behind some address from the first one up to, and without, the second
pub record IsShown (list : List (Range ℕ × Region)) (start end file : ℕ) : Type 0 where
  pub at : ℕ
  pub from : start ≤ at
  pub to : at < end
  pub region : Region
  pub is : region_at list at ≡ Some region
  pub shows : region.file ≡ file

-- the bytes of a region may be changed and run
abbrev pub is_both : Region → Bool
is_both region = region.writable && region.executable

-- so may those of some address
pub record IsBoth (list : List (Range ℕ × Region)) : Type 0 where
  pub at : ℕ
  pub region : Region
  pub is : region_at list at ≡ Some region
  pub both : is_both region ≡ true
