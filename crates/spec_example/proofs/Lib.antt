-- A history computed by the checker.
pub mod Play
