pub mod Walk
pub mod Whole
