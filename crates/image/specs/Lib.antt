-- What the contracts of this crate cite besides the specification.
pub mod Places
pub mod Readers
pub mod Images
