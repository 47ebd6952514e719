-- What the exported functions that are no calls answer.
pub mod Tells
pub mod Rules
