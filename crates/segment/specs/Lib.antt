-- A break's result in the terms of the specification.
pub mod Rule
