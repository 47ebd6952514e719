-- What the check leaves for a call's lookups, and the numbers that it gives. The specification's definitions stand in crate spec.
pub mod Ready
pub mod Table
pub mod Numbers
