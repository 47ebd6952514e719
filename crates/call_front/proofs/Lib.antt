pub mod Left
-- The numbers that come first, and what they make of an answer.
-- What calls know of a process and its pages, and what they leave.
pub mod FirstNumbers
pub mod Answers
pub mod Living
pub mod States
