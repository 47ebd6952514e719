-- The list of segments that numbers give, and what a line makes of the book.
pub mod Triples
pub mod Setting
