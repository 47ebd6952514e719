pub mod Copied
pub mod Access
