pub mod Kept
pub mod Fitted
pub mod Planned
