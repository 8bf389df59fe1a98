-- Lemmas of the allocator and of the calls of rows.
pub mod Ticks
pub mod Shapes
pub mod OneMore
