-- `ibrk`'s rule, case by case.
pub mod Cases
