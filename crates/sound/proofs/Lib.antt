-- Laws of the check, from the plan that is laid to the book being sound.
pub mod Entries
pub mod Planning
pub mod Decides
pub mod LookedUp
