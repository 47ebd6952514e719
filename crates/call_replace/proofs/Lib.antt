-- A replace's answer, case by case, and what is free once the old pages are.
pub mod Weighed
pub mod Freed
