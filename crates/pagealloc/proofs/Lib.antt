-- Laws that the proofs of this crate cite.
pub mod Filled
pub mod Parts
pub mod Steps
pub mod Placing
pub mod Copying
pub mod Chunks
