-- The number that a start is refused with.
pub mod Numbers
