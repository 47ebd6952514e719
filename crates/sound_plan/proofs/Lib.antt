-- Laws of the plan: sums and ranks, parts laid, what the records' rules make of them, words of a part's page, the search by halves.
pub mod Ranks
pub mod Within
pub mod Laying
pub mod Parts
pub mod Passing
pub mod Seats
