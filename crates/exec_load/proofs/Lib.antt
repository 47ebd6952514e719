-- The pages of an image, segment by segment.
pub mod Installed
pub mod Pushing
pub mod FileBytes
pub mod Segments
pub mod Places
pub mod Whole
