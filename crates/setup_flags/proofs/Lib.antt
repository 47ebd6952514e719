pub mod Lines
pub mod Rows
pub mod Texts
pub mod Back
