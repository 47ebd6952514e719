-- What is lent, what pages hold, and what a reader may ask of the two steps by which a page is loaded.
pub mod Contents
pub mod Lent
pub mod Steps
