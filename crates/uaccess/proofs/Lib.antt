-- A page's frame, a range, a copy, and a string copy part by part.
pub mod CopyParts
pub mod Found
pub mod InRange
pub mod Chunk
pub mod StringCopy
pub mod Checks
