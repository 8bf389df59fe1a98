-- Definitions of the program.
pub mod Bookings
pub mod Commands
pub mod Faults
pub mod Readings
pub mod Words
