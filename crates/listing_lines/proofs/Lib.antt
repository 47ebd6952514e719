pub mod Parts
pub mod Listed
