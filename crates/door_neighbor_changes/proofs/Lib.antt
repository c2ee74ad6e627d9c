pub mod Done
pub mod Refused
