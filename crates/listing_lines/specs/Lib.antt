-- What the contracts of this crate cite besides the specification.
pub mod Lines
