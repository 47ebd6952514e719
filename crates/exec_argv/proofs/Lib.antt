-- The arguments of replace: a pointer, a string, and the loop over both.
pub mod Pointing
pub mod Buffered
pub mod Adding
pub mod Turned
pub mod SoFar
