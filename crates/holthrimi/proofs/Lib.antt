-- What a run of exported functions is.
pub mod Linked
