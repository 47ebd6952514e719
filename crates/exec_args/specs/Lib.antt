-- What the contracts of arguments cite besides the specification.
pub mod Laid
pub mod Sizes
