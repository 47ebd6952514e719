pub mod Texts
pub mod Back
pub mod Lines
pub mod Written
pub mod Unique
