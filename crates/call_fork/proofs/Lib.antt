pub mod Answered
pub mod Finished
pub mod Judged
pub mod Places
pub mod Told
pub mod Forked
