-- Loops over the book.
pub mod Shared
pub mod Searches
pub mod Released
