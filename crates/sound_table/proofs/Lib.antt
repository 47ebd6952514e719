-- Bits of ranks; one word of the book more; how many pages a process has; what is found in all.
pub mod Folds
pub mod Frames
pub mod Bits
pub mod Places
pub mod Words
pub mod RowPass
pub mod Counting
pub mod Marks
