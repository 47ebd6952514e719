-- The answer of a start.
pub mod Weighing
