-- What reading the arguments of replace comes to.
pub mod Strings
pub mod Places
pub mod Reading
