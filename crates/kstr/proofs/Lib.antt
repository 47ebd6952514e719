-- Laws of names, and of bytes before a NUL.
pub mod Names
pub mod Plain
pub mod BeforeNul
