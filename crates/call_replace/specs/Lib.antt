-- A process that reads its arguments and enters an image.
pub mod Entering
pub mod Becoming
