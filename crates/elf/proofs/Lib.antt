pub mod Image
pub mod Walk
pub mod Checked
pub mod HeaderAt
