-- What the contracts of this crate cite besides the specification.
pub mod Pages
pub mod Fits
pub mod Plan
