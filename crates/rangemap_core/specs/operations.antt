-- The places from which and to which ranges go, by which unions and intersections are proved. Of public contracts those of `KeyRange` and `Kind`, of `new` and `over` of `Union` and `Intersection`, and of `closed_operations` need these.
pub mod Places
pub mod PlaceLaws
pub mod PlaceKinds
