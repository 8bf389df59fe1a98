use Rattle.std.proofs.Common.{◌≡◌, count_by, nat_eq}
use Rattle.std.specs.Map.Iter.{deref_pair}
use Rattle.examples.proofs.desk.bookings_of.Given as goal

-- the count is that of the bookings so far
abbrev pub invariant-loop-who : goal.invariant-loop-who
invariant-loop-who l = l.count ≡ count_by (λ item. nat_eq (deref_pair item).1 l.guest) l.yielded
