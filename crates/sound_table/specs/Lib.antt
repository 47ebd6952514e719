-- The pass over the book, and the table that it leaves; the same of a `Pass`.
pub mod Rows
pub mod Table
pub mod Going
