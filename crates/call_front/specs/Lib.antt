-- The numbers that come first.
pub mod Numbers
