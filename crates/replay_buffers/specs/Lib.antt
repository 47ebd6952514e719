-- The words of a line, and the numbers that they are.
pub mod Words
