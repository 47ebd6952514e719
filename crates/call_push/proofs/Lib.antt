-- What a push answers.
pub mod Ranges
pub mod Answered
