-- What the functions of the plan promise each other and those who use it.
pub mod Plan
