-- Laws of the list that numbers give.
pub mod Filled
pub mod Longer
