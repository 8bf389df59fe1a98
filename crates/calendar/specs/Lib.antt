-- Definitions of the calendar.
pub mod Bookings
pub mod Faults
