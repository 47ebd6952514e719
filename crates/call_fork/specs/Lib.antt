-- What fork's own functions promise each other. The specification's definitions stand in crate spec.
pub mod ByList
pub mod Lent
