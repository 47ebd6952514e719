-- The checks of an a.out's words; what a loader reads at each place of an image.
pub mod Judged
pub mod Places
